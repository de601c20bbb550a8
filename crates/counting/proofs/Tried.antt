-- Over a finite field it is decided whether a block is a codeword, whatever the code: all messages are tried. Assumes nothing.
use mathlib.Core.HLevel.{⊥_prop}
use Rattle.std.proofs.Math.Logic.Or
use mathlib.Core.List.{List, [], ◌∷◌, List-discrete, Mem, not-mem-nil, mem-cons_self, mem-cons_of_mem, eq-or-mem_of_mem-cons}
use Rattle.std.specs.Prelude.{ℕ}
use Rattle.std.proofs.Math.Decide.{map_dec}
use Rattle.algebra.specs.Words.{PrimeField}
use Rattle.foldable.specs.Code.{Code, dim, encode, Codeword}
use Rattle.counting.specs.Challenges.{challenges}
use Rattle.counting.proofs.Every.{every_challenges}

-- whether some element of a list passes
some? : {A : Type 0} {P : A → Type 0} → ((a : A) → Dec (P a)) → (xs : List A) → Dec ((a : A) × Mem a xs × P a)
some? test [] = no (λ t. not-mem-nil t.1)
some? {A} {P} test (x ∷ xs) = step (test x) (some? test xs)
  where
    step : Dec (P x) → Dec ((a : A) × Mem a xs × P a) → Dec ((a : A) × Mem a (x ∷ xs) × P a)
    step (yes p) rest = yes (x, mem-cons_self, p)
    step (no n) (yes t) = yes (t.0, mem-cons_of_mem x t.1, t.2)
    step (no n) (no k) = no (λ t. Or.elim ⊥_prop (eq-or-mem_of_mem-cons t.1) (λ e. n (rw e at t.2)) (λ m. k (t.0, m, t.2)))

module _ (𝓕 : PrimeField) (C : Code 𝓕.field) where
  open 𝓕 use {field}
  open field use {ring, eq?}
  open ring use {R}

  pub tried : (i : ℕ) (w : List R) → Dec (Codeword field C i w)
  tried i w =
      let k = dim field C i in
      map_dec
      (λ t. record { message = t.0; sized = (every_challenges 𝓕 k t.0).0 t.1; encodes = t.2 })
      (λ c. (c.message, (every_challenges 𝓕 k c.message).1 c.sized, c.encodes))
      (some? (λ m. List-discrete eq? (encode field C i m) w) (challenges 𝓕 k))
