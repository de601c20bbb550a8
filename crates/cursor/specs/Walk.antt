-- Numbers that stand one after another in a file, each judged as it is read, and which numbers these are. Definitions only. Assumes nothing.
use Rattle.std.specs.Prelude.{cond, List, [], ◌∷◌, ℕ, zero, suc, ◌+◌, ltb}
use Rattle.job.specs.Outcome.{Numbers, Outcome, refused, done, ◌⨾◌}
use Rattle.numeral.specs.Numeral.{number_at}

-- one outcome after another, which is handed the first one's value: the first refusal decides
infixr 60 ◌⟫◌
abbrev pub ◌⟫◌ : {A B : Type 0} → Outcome A → (A → Outcome B) → Outcome B
refused n ⟫ f = refused n
done a ⟫ f = f a

-- a number with index k must be below the limit: else its fault is due
abbrev pub under : ℕ → (ℕ → Numbers) → ℕ → ℕ → Outcome (Unit {0})
under limit fault k v = cond (ltb v limit) (done tt) (refused (fault k))

-- the number at a place, judged with its index i: the place after it
abbrev pub judged : (ℕ → ℕ → Outcome (Unit {0})) → ℕ → List ℕ → ℕ → Outcome ℕ
judged J i bs at = number_at bs at ⟫ λ p. J i p.0 ⨾ done p.1

-- k numbers from a place on, the first of them with index i, each judged as it is read: the place after them
unfoldable pub walk : (ℕ → ℕ → Outcome (Unit {0})) → ℕ → ℕ → List ℕ → ℕ → Outcome ℕ
walk J i zero bs at = done at
walk J i (suc k) bs at = judged J i bs at ⟫ walk J (i + 1) k bs

-- the number at a place and the place after it; 0, and the same place, where none stands
abbrev pub entry_of : ℕ → Outcome (ℕ × ℕ) → ℕ × ℕ
entry_of at (refused n) = (0, at)
entry_of at (done p) = p

abbrev pub entry : List ℕ → ℕ → ℕ × ℕ
entry bs at = entry_of at (number_at bs at)

-- the k numbers that stand from a place on, and the place after them
unfoldable pub listed : ℕ → List ℕ → ℕ → List ℕ
listed zero bs at = []
listed (suc k) bs at = (entry bs at).0 ∷ listed k bs (entry bs at).1

unfoldable pub after : ℕ → List ℕ → ℕ → ℕ
after zero bs at = at
after (suc k) bs at = after k bs (entry bs at).1
