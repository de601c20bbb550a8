-- The first failure of checks that are made in two parts, or one after another in a row. Assumes nothing.
use Rattle.std.specs.Prelude.{◌≡◌, Bool, true, false, List, ◌++◌, ℕ, zero, suc, ◌<◌}
use Rattle.std.proofs.Common.{sym, ap, ◌∙◌, arith}
use Rattle.std.proofs.Math.Option.{Option, none, some, or_else}
use Rattle.algebra.specs.Lists.{row}
use Rattle.basefold.specs.Checks.{Check, first_failure}
use Rattle.basefold.specs.CheckLaws.{first_append, first_holds, first_fails, first_none}

-- a failure in the first part decides
pub append_fails : {x : Check} (a b : List (Check × Bool)) → some x ≡ first_failure a → some x ≡ first_failure (a ++ b)
unfolding or_else
append_fails a b e = sym (first_append a b ∙ ap (λ o. or_else o (first_failure b)) (sym e))

-- where there is none, the second part decides
pub append_holds : {x : Option Check} (a b : List (Check × Bool)) → none ≡ first_failure a → x ≡ first_failure b → x ≡ first_failure (a ++ b)
unfolding or_else
append_holds a b e f = f ∙ sym (first_append a b ∙ ap (λ o. or_else o (first_failure b)) (sym e))

-- of a row of checks, the one that fails with those before it passed; none, where all pass
pub row_fails : (n : ℕ) (f : ℕ → Check × Bool) (j : ℕ) → ((k : ℕ) → k < j → (f k).1 ≡ true) → j < n → (f j).1 ≡ false → first_failure (row n f) ≡ some (f j).0
unfolding row
row_fails zero f j p h e = absurd (omega arith)
row_fails (suc n) f zero p h e = first_fails (f 0).0 _ _ e
row_fails (suc n) f (suc j) p h e = first_holds (f 0).0 _ _ (p 0 (omega arith)) ∙ row_fails n (λ k. f (suc k)) j (λ k l. p (suc k) (omega arith)) (omega arith) e

pub row_holds : (n : ℕ) (f : ℕ → Check × Bool) → ((k : ℕ) → k < n → (f k).1 ≡ true) → first_failure (row n f) ≡ none
unfolding row
row_holds zero f p = first_none
row_holds (suc n) f p = first_holds (f 0).0 _ _ (p 0 (omega arith)) ∙ row_holds n (λ k. f (suc k)) (λ k l. p (suc k) (omega arith))
