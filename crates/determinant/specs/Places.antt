-- Lists without one of their places, and tables of entries. Assumes nothing.
use Rattle.std.specs.Prelude.{◌≡◌, refl, List, [], ◌∷◌, ℕ, zero, suc, ◌<◌, length, get_or, replicate}
use Rattle.std.proofs.Common.{ap, arith}
use Rattle.std.proofs.Math.Nat.{suc_inj}
use Rattle.algebra.specs.Lists.{row}
use Rattle.algebra.specs.Matrix.{Wide}
use Rattle.determinant.specs.Determinant.{without}

pub length_without : {E : Type 0} (i k : ℕ) (xs : List E) → length xs ≡ suc k → i < suc k → length (without i xs) ≡ k
unfolding without
length_without i k [] e h = absurd (omega arith)
length_without zero k (x ∷ xs) e h = suc_inj e
length_without (suc i) zero (x ∷ xs) e h = absurd (omega arith)
length_without (suc i) (suc k) (x ∷ xs) e h = ap suc (length_without i k xs (suc_inj e) (omega arith))

pub wide_without : {E : Type 0} (n i : ℕ) (A : List (List E)) → Wide n A → Wide n (without i A)
unfolding without
wide_without n i [] w = tt
wide_without n zero (v ∷ A) w = w.1
wide_without n (suc i) (v ∷ A) w = (w.0, wide_without n i A w.1)

-- row i stands in the matrix without another row c
pub found : {E : Type 0} (i c : ℕ) (A : List (List E)) → i < length A → (i ≡ c → ⊥)
    → (j : ℕ) × (j < length (without c A)) × (get_or (without c A) j [] ≡ get_or A i [])
unfolding without
found i c [] h d = absurd (omega arith)
found zero zero (v ∷ A) h d = absurd (d refl)
found (suc i) zero (v ∷ A) h d = (i, omega arith, refl)
found zero (suc c) (v ∷ A) h d = (0, omega arith, refl)
found (suc i) (suc c) (v ∷ A) h d = let f = found i c A (omega arith) (λ e. d (ap suc e)) in (suc f.0, omega (arith, f.1), f.2)

pub row_replicate : {A : Type 0} (n : ℕ) (a : A) → row n (λ j. a) ≡ replicate n a
unfolding row
row_replicate zero a = refl
row_replicate (suc n) a = ap (λ l. a ∷ l) (row_replicate n a)

pub wide_row : {E : Type 0} (n k : ℕ) (f : ℕ → List E) → ((i : ℕ) → length (f i) ≡ n) → Wide n (row k f)
unfolding row
wide_row n zero f h = tt
wide_row n (suc k) f h = (h 0, wide_row n k (λ i. f (suc i)) (λ i. h (suc i)))

pub wide_at : {E : Type 0} (n : ℕ) (A : List (List E)) → Wide n A → (i : ℕ) → i < length A → length (get_or A i []) ≡ n
wide_at n [] w i h = absurd (omega arith)
wide_at n (v ∷ A) w zero h = w.0
wide_at n (v ∷ A) w (suc i) h = wide_at n A w.1 i (omega arith)
