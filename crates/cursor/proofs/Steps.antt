-- The loop over n numbers that are judged. Assumes nothing.
use mathlib.Core.Path.{◌≡◌, refl, sym, ap, ◌∙◌}
use mathlib.Core.List.{List}
use Prim.Native.Nat.{ℕ, suc, ◌+◌, ◌-◌, ◌<◌, ◌≤◌}
use native.Mathlib.Omega.{arith}
use Rattle.job.specs.Outcome.{Numbers, Outcome, done}
use Rattle.std.specs.Prelude.{Err}
use Rattle.cursor.specs.declared.Fault.{Fault}
use Rattle.cursor.specs.declared.Fault.TheVariants.{Ends, Malformed, High}
use Rattle.numeral.specs.Numeral.{number_at}
use Rattle.numeral.specs.Shown.{shown}
use Rattle.numeral.specs.declared.read.Fault.{Fault as Unread}
use Rattle.numeral.specs.declared.read.Fault.TheVariants.{Ends as NoByte, Malformed as BadForm}
use Rattle.cursor.specs.Shown.{Skimmed, handed_on, told}
use Rattle.cursor.specs.Walk.{◌⟫◌, under, judged, walk}
use Rattle.cursor.specs.Laws.{then_on, then_stop, judged_none}

-- a number that cannot be read
pub unread : (limit : ℕ) (fault : ℕ → Numbers) (i : ℕ) (bs : List ℕ) (at : ℕ) (f : Unread) {r : Skimmed} → shown (Err f) ≡ number_at bs at → r ≡ Err (handed_on f)
    → told fault r ≡ judged (under limit fault) i bs at
unread limit fault i bs at NoByte e q = ap (told fault) q ∙ judged_none limit fault i bs at e
unread limit fault i bs at BadForm e q = ap (told fault) q ∙ judged_none limit fault i bs at e

-- the loop: what is left of the walk after i numbers is the whole walk's outcome
module _ (J : ℕ → ℕ → Outcome (Unit {0})) (n : ℕ) (bs : List ℕ) (at here i : ℕ) (so_far : walk J 0 n bs at ≡ walk J i (n - i) bs here) where
  one_more : i < n → walk J 0 n bs at ≡ judged J i bs here ⟫ walk J (i + 1) (n - (i + 1)) bs
  unfolding walk
  one_more h = let less : n - i ≡ suc (n - (i + 1)) = omega arith in so_far ∙ ap (λ k. walk J i k bs here) less

  pub walk_turn : {next : ℕ} → i < n → done next ≡ judged J i bs here → walk J 0 n bs at ≡ walk J (i + 1) (n - (i + 1)) bs next
  walk_turn {next} h e = one_more h ∙ sym (then_on (walk J (i + 1) (n - (i + 1)) bs) e refl)

  pub walk_stop : (fault : ℕ → Numbers) (f : Fault) {r : Skimmed} → i < n → told fault (Err f) ≡ judged J i bs here → r ≡ Err f → told fault r ≡ walk J 0 n bs at
  walk_stop fault f h e q = ap (told fault) q ∙ told_stop f e ∙ sym (one_more h)
    where
      told_stop : (f : Fault) → told fault (Err f) ≡ judged J i bs here → told fault (Err f) ≡ judged J i bs here ⟫ walk J (i + 1) (n - (i + 1)) bs
      told_stop Ends e = then_stop (walk J (i + 1) (n - (i + 1)) bs) e
      told_stop Malformed e = then_stop (walk J (i + 1) (n - (i + 1)) bs) e
      told_stop (High k) e = then_stop (walk J (i + 1) (n - (i + 1)) bs) e

  pub walk_end : n ≤ i → done here ≡ walk J 0 n bs at
  unfolding walk
  walk_end h = let none : n - i ≡ 0 = omega arith in sym (so_far ∙ ap (λ k. walk J i k bs here) none)

pub walk_none : (J : ℕ → ℕ → Outcome (Unit {0})) (n : ℕ) (bs : List ℕ) (at : ℕ) → walk J 0 n bs at ≡ walk J 0 (n - 0) bs at
walk_none J n bs at = let same : n ≡ n - 0 = omega arith in ap (λ k. walk J 0 k bs at) same
