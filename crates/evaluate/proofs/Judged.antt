-- From the tests of evaluation to the outcome that is due, and from an outcome without refusal to what holds of the input. Assumes nothing.
use mathlib.Core.Path.{◌≡◌, refl, sym, ap, ◌∙◌}
use mathlib.Core.Bool.{Bool, true, false, ◌&&◌}
use mathlib.Core.List.{List, []}
use Prim.Native.Nat.{ℕ, ◌^◌}
use native.Mathlib.Omega.{arith}
use lib.Dec.{eqb}
use lib.ListN.{length}
use borrow.Author.Tests.{eqb-true}
use Rattle.algebra.specs.Tests.{all, and_both}
use Rattle.algebra.specs.Words.{PrimeField}
use Rattle.job.specs.Sizes.{k0_ok, depth_ok, size_ok, message_size, point_size}
use Rattle.job.specs.SizeLaws.{within_size, message_power, power_is}
use Rattle.job.specs.Outcome.{Numbers, unplaced, Outcome, refused, done, require, unless, ◌⨾◌}
use Rattle.job.specs.OutcomeLaws.{stop_within, pass, pass_demand, after_refused, chain, require_done, demand_done, held}
use Rattle.words.specs.Scans.{all_below}
use Rattle.words.specs.ScanLaws.{all_below_lem}
use Rattle.places.specs.Inputs.{in_order, judge_words, Short}
use Rattle.places.specs.FlagLaws.{short_without_row, words_flagged}
use Rattle.polynomial.specs.Lent.{EvaluateInput}
use Rattle.evaluate.specs.Evaluation.{evaluate_lengths, evaluate_inputs, judge_evaluating}

lengths : (d k m z : ℕ) → evaluate_lengths d k m z ≡ true → (m ≡ message_size d k) × (z ≡ point_size d k)
unfolding evaluate_lengths
lengths d k m z e = let l = and_both (eqb m (message_size d k)) (eqb z (point_size d k)) e in (eqb-true m _ l.0, eqb-true z _ l.1)

-- where the lengths are right, each word has an index
pub short : (d k : ℕ) (m z : List ℕ) → (size_ok d k && evaluate_lengths d k (length m) (length z)) ≡ true → Short [] [] [] m z [] [] []
short d k m z e =
    let i = and_both (size_ok d k) _ e in
    let l = lengths d k (length m) (length z) i.1 in
    let w = within_size d k i.0 in
    short_without_row [] [] m z [] (omega arith) (omega arith) (omega (arith, l.0, w.message)) (omega (arith, l.1, w.point)) (omega arith)

module _ (𝓕 : PrimeField) (d k : ℕ) (m z : List ℕ) where
  abbrev L : Bool
  L = evaluate_lengths d k (length m) (length z)

  -- 1 and 13 decide
  pub size_due : {n : Numbers} → refused n ≡ require (depth_ok k d) 1 ⨾ require (k0_ok k) 13 → refused n ≡ judge_evaluating 𝓕 d k m z
  unfolding judge_evaluating
  size_due e = after_refused (require L 3 ⨾ judge_words 𝓕 (evaluate_inputs m z)) e ∙ chain (require (depth_ok k d) 1) (require (k0_ok k) 13) (require L 3 ⨾ judge_words 𝓕 (evaluate_inputs m z))

  -- and where they do not, the record is legal
  pub size_passed : done tt ≡ require (depth_ok k d) 1 ⨾ require (k0_ok k) 13 → size_ok d k ≡ true
  size_passed e = let a = require_done (depth_ok k d) 1 (sym e) in rw a.0 (held (k0_ok k) 13 a.1)

  pub lengths_due : size_ok d k ≡ true → (size_ok d k && L) ≡ false → refused (unplaced 3) ≡ judge_evaluating 𝓕 d k m z
  unfolding judge_evaluating
  lengths_due e f =
      let s = and_both (depth_ok k d) (k0_ok k) e in
      pass 1 s.0 (pass 13 s.1 (stop_within (size_ok d k) L _ e f))

  -- an input that is not lent is passed over
  lent_only : judge_words 𝓕 (in_order [] [] [] m z [] [] []) ≡ judge_words 𝓕 (evaluate_inputs m z)
  unfolding all
  lent_only = refl

  -- 4 by its flag, which is only set where nothing is due
  pub words_due : {words : Bool} {o : Outcome (Unit {0})} → (size_ok d k && L) ≡ true → words ≡ (all_below 𝓕 m && all_below 𝓕 z)
      → o ≡ unless words (judge_words 𝓕 (in_order [] [] [] m z [] [] [])) → o ≡ judge_evaluating 𝓕 d k m z
  unfolding judge_evaluating
  words_due {words} l e h =
      let i = and_both (size_ok d k) L l in
      let s = and_both (depth_ok k d) (k0_ok k) i.0 in
      pass 1 s.0 (pass 13 s.1 (pass 3 i.1 (h ∙ words_flagged 𝓕 words (in_order [] [] [] m z [] [] []) (evaluate_inputs m z) lent_only words_pass)))
    where
      words_pass : words ≡ true → judge_words 𝓕 (evaluate_inputs m z) ≡ done tt
      words_pass q = let a = and_both (all_below 𝓕 m) (all_below 𝓕 z) (sym e ∙ q) in sym (pass_demand _ a.0 (pass_demand _ a.1 refl))

  -- the job's tests have passed
  pub evaluates : judge_evaluating 𝓕 d k m z ≡ done tt → EvaluateInput 𝓕 m z
  unfolding judge_evaluating
  evaluates e =
      let a = require_done (depth_ok k d) 1 e in
      let x = require_done (k0_ok k) 13 a.1 in
      let b = require_done L 3 x.1 in
      let l = lengths d k (length m) (length z) b.0 in
      let v = demand_done (all_below 𝓕 m) _ b.1 in
      let w = demand_done (all_below 𝓕 z) _ v.1 in
      record { size = l.0 ∙ message_power d k (power_is k x.0) ∙ ap (λ n. 2 ^ n) (sym l.1); message = all_below_lem 𝓕 m v.0; point = all_below_lem 𝓕 z w.0 }
