-- From the job's tests to the outcome that is due, and from an outcome without refusal to what holds of the input. Assumes nothing.
use mathlib.Core.Path.{◌≡◌, refl, sym, ap, ap₂, ◌∙◌}
use mathlib.Core.Bool.{Bool, true, false, ◌&&◌}
use mathlib.Core.List.{List, [], ◌∷◌}
use Prim.Native.Nat.{ℕ, suc, ◌+◌, ◌*◌, ◌-◌, ◌^◌, ◌<◌, ◌≤◌}
use native.Mathlib.Nat.{mul-one}
use native.Mathlib.Omega.{arith}
use lib.Dec.{ltb, eqb}
use lib.ListN.{length}
use borrow.Author.Tests.{eqb-true}
use Rattle.algebra.specs.Words.{PrimeField}
use Rattle.algebra.specs.Tests.{all, and_both}
use Rattle.algebra.specs.WordLists.{Low}
use Rattle.foldable.specs.Encode.{double}
use Rattle.job.specs.Limits.{rate_ok, block_size}
use Rattle.job.specs.Sizes.{k0_ok, base_size}
use Rattle.job.specs.SizeLaws.{within, block_most}
use Rattle.job.specs.Outcome.{Numbers, unplaced, Outcome, refused, done, require, unless, ◌⨾◌}
use Rattle.job.specs.OutcomeLaws.{stop_within, pass, pass_demand, after_refused, chain, require_done, demand_done, demand_held, held, both}
use Rattle.words.specs.Scans.{all_below, all_differ}
use Rattle.words.specs.ScanLaws.{all_below_lem, all_differ_lem}
use Rattle.places.specs.Inputs.{in_order, judge_words, no_equal, Short}
use Rattle.places.specs.FlagLaws.{short_without_row, words_flagged, equal_flagged}
use Rattle.inversion.specs.Inversion.{Diagonals}
use Rattle.fold_limits.specs.Limits.{level_ok, fold_limits, lengths_ok}
use Rattle.fold_limits.proofs.Levels.{level_depth, legal}
use Rattle.fold.specs.Job.{fold_inputs, judge_folding}

pub record Lengths (n m t t2 block out : ℕ) : Type 0 where
  pub first : t ≡ n
  pub second : t2 ≡ n
  pub whole : block ≡ m
  pub result : out ≡ n

-- with base blocks of s words
pub lengths : (level s t t2 block out : ℕ) → lengths_ok level s t t2 block out ≡ true
    → Lengths (block_size s (level - 1)) (block_size s level) t t2 block out
unfolding lengths_ok
lengths level s t t2 block out e =
    let n = block_size s (level - 1) in
    let a = and_both (eqb t n) _ e in
    let b = and_both (eqb t2 n) _ a.1 in
    let c = and_both (eqb block (block_size s level)) _ b.1 in
    record { first = eqb-true t n a.0; second = eqb-true t2 n b.0; whole = eqb-true block _ c.0; result = eqb-true out n c.1 }

-- where the lengths are right, each word has an index
pub short : (level rate k : ℕ) (t t2 block : List ℕ) (a out : ℕ)
    → (fold_limits level rate k && lengths_ok level (base_size rate k) (length t) (length t2) (length block) out) ≡ true
    → Short [] t t2 block [] [] (a ∷ []) []
short level rate k t t2 block a out e =
    let i = and_both (fold_limits level rate k) _ e in
    let w = within level rate k (legal level rate k i.0).1 in
    let below = block_most w (level - 1) (omega arith) in
    let whole = block_most w level (omega arith) in
    let l = lengths level (base_size rate k) _ _ _ _ i.1 in
    short_without_row t t2 block [] (a ∷ []) (omega (arith, l.first, below)) (omega (arith, l.second, below)) (omega (arith, l.whole, whole)) (omega arith) (omega arith)

-- a block has twice the words of the block below it
twice : (s level : ℕ) → 1 ≤ level → block_size s level ≡ block_size s (level - 1) + block_size s (level - 1)
twice s level h = let up : level ≡ suc (level - 1) = omega arith in ap (λ i. s * 2 ^ i) up ∙ double s (level - 1)

-- where 1, 2 and 13 do not decide, the record is legal
pub limits_passed : (level rate k : ℕ) → done tt ≡ require (level_ok k level) 1 ⨾ require (rate_ok rate) 2 ⨾ require (k0_ok k) 13 → fold_limits level rate k ≡ true
limits_passed level rate k e =
    let a = require_done (level_ok k level) 1 (sym e) in
    let b = require_done (rate_ok rate) 2 a.1 in
    ap₂ ◌&&◌ a.0 (ap₂ ◌&&◌ b.0 (held (k0_ok k) 13 b.1))

module _ (𝓕 : PrimeField) where
  open 𝓕 use {modulus as P}

  module _ (level rate k : ℕ) (t t2 block : List ℕ) (a out : ℕ) where
    abbrev L : Bool
    L = lengths_ok level (base_size rate k) (length t) (length t2) (length block) out

    abbrev Rest : Outcome (Unit {0})
    Rest = require L 3 ⨾ judge_words 𝓕 (fold_inputs t t2 block a) ⨾ no_equal t t2

    -- 1, 2 and 13 decide
    pub limits_due : {n : Numbers} → refused n ≡ require (level_ok k level) 1 ⨾ require (rate_ok rate) 2 ⨾ require (k0_ok k) 13 → refused n ≡ judge_folding 𝓕 level rate k t t2 block a out
    unfolding judge_folding
    limits_due e =
        let rest = require (rate_ok rate) 2 ⨾ require (k0_ok k) 13 in
        after_refused Rest e ∙ chain (require (level_ok k level) 1) rest Rest ∙ ap (λ o. require (level_ok k level) 1 ⨾ o) (chain (require (rate_ok rate) 2) (require (k0_ok k) 13) Rest)

    -- what is due after them
    after_limits : fold_limits level rate k ≡ true → {o : Outcome (Unit {0})} → o ≡ Rest → o ≡ judge_folding 𝓕 level rate k t t2 block a out
    unfolding judge_folding
    after_limits e r =
        let i = and_both (level_ok k level) (rate_ok rate && k0_ok k) e in
        let j = and_both (rate_ok rate) (k0_ok k) i.1 in
        pass 1 i.0 (pass 2 j.0 (pass 13 j.1 r))

    pub lengths_due : fold_limits level rate k ≡ true → (fold_limits level rate k && L) ≡ false → refused (unplaced 3) ≡ judge_folding 𝓕 level rate k t t2 block a out
    lengths_due e g = after_limits e (stop_within (fold_limits level rate k) L _ e g)

    -- an input that is not lent is passed over
    lent_only : judge_words 𝓕 (in_order [] t t2 block [] [] (a ∷ []) []) ≡ judge_words 𝓕 (fold_inputs t t2 block a)
    unfolding all
    lent_only = refl

    -- 4 and 6 by their flags, which are only set where nothing is due
    pub places_due : (lengths low : Bool) {words apart : Bool} {o : Outcome (Unit {0})}
        → (fold_limits level rate k && L) ≡ true
        → low ≡ (lengths && (all_below 𝓕 t && all_below 𝓕 t2)) → apart ≡ (lengths && all_differ t t2) → words ≡ (low && (all_below 𝓕 block && ltb a P))
        → o ≡ unless words (judge_words 𝓕 (in_order [] t t2 block [] [] (a ∷ []) [])) ⨾ unless apart (no_equal t t2)
        → o ≡ judge_folding 𝓕 level rate k t t2 block a out
    unfolding all
    places_due lengths low {words} l e f g h =
        let i = and_both (fold_limits level rate k) L l in
        after_limits i.0 (pass 3 i.1
        (h ∙ ap₂ (λ p q. p ⨾ q) (words_flagged 𝓕 words (in_order [] t t2 block [] [] (a ∷ []) []) (fold_inputs t t2 block a) lent_only words_pass) (equal_flagged lengths t t2 f)))
      where
        words_pass : words ≡ true → judge_words 𝓕 (fold_inputs t t2 block a) ≡ done tt
        words_pass q =
            let v = and_both low _ (sym g ∙ q) in
            let w = and_both (all_below 𝓕 t) _ (and_both lengths _ (sym e ∙ v.0)).1 in
            let x = and_both (all_below 𝓕 block) _ v.1 in
            sym (pass_demand _ w.0 (pass_demand _ w.1 (pass_demand _ x.0 (pass_demand _ (ap (λ b. b && true) x.1) refl))))

    -- what holds where no refusal is due
    pub record NoRefusalDue : Type 0 where
      pub diagonals : Diagonals 𝓕 1 out t t2
      pub first : length t ≡ out
      pub second : length t2 ≡ out
      pub whole : length block ≡ out + out
      pub low : Low P block
      pub challenge : a < P
      pub size : out ≡ block_size (base_size rate k) (level - 1)

    pub no_refusal_due : judge_folding 𝓕 level rate k t t2 block a out ≡ done tt → NoRefusalDue
    unfolding judge_folding
    no_refusal_due e =
        let level-passes = require_done (level_ok k level) 1 e in
        let rate-passes = require_done (rate_ok rate) 2 level-passes.1 in
        let base-passes = require_done (k0_ok k) 13 rate-passes.1 in
        let lengths-pass = require_done L 3 base-passes.1 in
        let words_pass = both (judge_words 𝓕 (fold_inputs t t2 block a)) lengths-pass.1 in
        let first = demand_done (all_below 𝓕 t) _ words_pass.0 in
        let second = demand_done (all_below 𝓕 t2) _ first.1 in
        let third = demand_done (all_below 𝓕 block) _ second.1 in
        let one = demand_done (all_below 𝓕 (a ∷ [])) _ third.1 in
        let differ = demand_held (all_differ t t2) _ words_pass.1 in
        let l = lengths level (base_size rate k) _ _ _ _ lengths-pass.0 in
        let n = l.result in
        record {
          diagonals = record {
            some = omega arith;
            first = omega (arith, l.first, n);
            second = omega (arith, l.second, n);
            low = all_below_lem 𝓕 t first.0;
            low' = all_below_lem 𝓕 t2 second.0;
            differ = λ i h. all_differ_lem t t2 differ (i * 1) (omega (arith, l.first, mul-one i)) (omega (arith, l.second, mul-one i));
          };
          first = l.first ∙ sym n;
          second = l.second ∙ sym n;
          whole = l.whole ∙ twice (base_size rate k) level (level_depth k level level-passes.0).0 ∙ ap (λ m. m + m) (sym n);
          low = all_below_lem 𝓕 block third.0;
          challenge = (all_below_lem 𝓕 (a ∷ []) one.0).low 0 (omega arith);
          size = n;
        }
