-- Flags first: where a flag tells that nothing is due, no place is looked for, and the outcome is the same. Assumes nothing.
use Rattle.std.specs.Prelude.{◌≡◌, Bool, ◌&&◌, cond, List, [], ◌∷◌, ℕ, ◌≤◌, ltb, length}
use Rattle.std.proofs.Math.Path.{refl}
use Rattle.std.proofs.Common.{sym, ap, ◌∙◌, arith}
use Rattle.std.proofs.Math.Bool.{true, false}
use Rattle.algebra.specs.Tests.{all, and_both}
use Rattle.algebra.specs.Words.{PrimeField}
use Rattle.job.specs.declared.Input.{Input}
use Rattle.job.specs.declared.Refusal.TheVariants.{Word}
use Rattle.job.specs.Outcome.{done, due, demand, unless, ◌⨾◌}
use Rattle.job.specs.OutcomeLaws.{holds_demand, unless_is}
use Rattle.words.specs.Scans.{all_differ}
use Rattle.places.specs.Places.{first_place}
use Rattle.places.specs.Inputs.{Lent, judge_words, no_equal, max_words, Short}

module _ (𝓕 : PrimeField) where
  open 𝓕 use {modulus as P}

  -- 4: xs has the inputs ys of a call, and besides only what is empty
  pub words_flagged : (flag : Bool) (xs ys : List Lent) → judge_words 𝓕 xs ≡ judge_words 𝓕 ys → (flag ≡ true → judge_words 𝓕 ys ≡ done tt)
      → unless flag (judge_words 𝓕 xs) ≡ judge_words 𝓕 ys
  words_flagged flag xs ys same h = ap (unless flag) same ∙ unless_is flag (judge_words 𝓕 ys) h

  -- one word is its own first place
  pub one_word : (i : Input) (w : ℕ) → judge_words 𝓕 ((i, w ∷ []) ∷ []) ≡ demand (ltb w P) (due (Word i 0))
  unfolding all first_place
  one_word i w = go (ltb w P)
    where
      go : (b : Bool) → demand (b && true) (due (Word i (cond b 1 0))) ⨾ done tt ≡ demand b (due (Word i 0))
      go true = refl
      go false = refl

-- 6: a flag that is only set where the diagonals differ in every place
pub equal_flagged : (asked : Bool) (t t' : List ℕ) {flag : Bool} → flag ≡ (asked && all_differ t t') → unless flag (no_equal t t') ≡ no_equal t t'
equal_flagged asked t t' {flag} e = unless_is flag (no_equal t t') (λ q. sym (holds_demand _ (and_both asked (all_differ t t') (sym e ∙ q)).1))

-- a call that is lent no base row, no claim and no opening
pub short_without_row : (t t' w z r : List ℕ) → length t ≤ max_words → length t' ≤ max_words → length w ≤ max_words → length z ≤ max_words → length r ≤ max_words
    → Short [] t t' w z [] r []
short_without_row t t' w z r a b h i j =
    record { row = omega arith; first = a; second = b; block = h; point = i; claim = omega arith; challenges = j; opening = omega arith }
