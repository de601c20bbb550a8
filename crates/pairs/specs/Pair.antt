-- The pairs a + b i with i i = -1 over a field, and a code whose matrix and diagonals are taken into a larger field. Definitions only. Assumes nothing.
use Rattle.std.specs.Prelude.{◌≡◌, map}
use Rattle.algebra.specs.Ring.{Ring}
use Rattle.algebra.specs.Field.{Field}
use Rattle.foldable.specs.Code.{Code}

-- re + im i
pub record Pair (A : Type 0) : Type 0 where
  pub re : A
  pub im : A

module _ (K : Ring) where
  infixl 65 ◌+◌
  infixl 65 ◌-◌
  infixl 70 ◌*◌
  open K use {R, ◌+◌, ◌*◌, ◌-◌, neg, 𝟘}

  -- a + 0 i
  abbrev pub real : R → Pair R
  real a = record { re = a; im = 𝟘 }

  unfoldable pub add_p : Pair R → Pair R → Pair R
  add_p x y = record { re = x.re + y.re; im = x.im + y.im }

  unfoldable pub sub_p : Pair R → Pair R → Pair R
  sub_p x y = record { re = x.re - y.re; im = x.im - y.im }

  unfoldable pub neg_p : Pair R → Pair R
  neg_p x = record { re = neg x.re; im = neg x.im }

  -- (a + b i) (c + d i) = (a c - b d) + (a d + b c) i
  unfoldable pub mul_p : Pair R → Pair R → Pair R
  mul_p x y = record { re = x.re * y.re - x.im * y.im; im = x.re * y.im + x.im * y.re }

  -- of a + b i: a - b i, and a a + b b
  abbrev pub conjugate : Pair R → Pair R
  conjugate x = record { re = x.re; im = neg x.im }

  abbrev pub norm : Pair R → R
  norm x = x.re * x.re + x.im * x.im

module _ (F : Field) where
  infixl 70 ◌*◌
  open F use {ring as K, inv}
  open K use {R, ◌*◌, neg, 𝟙}

  -- the conjugate over the norm
  unfoldable pub inv_p : Pair R → Pair R
  inv_p x = record { re = (conjugate K x).re * inv (norm K x); im = (conjugate K x).im * inv (norm K x) }

  -- -1 is no square
  abbrev pub NoRoot : Type 0
  NoRoot = (x : R) → x * x ≡ neg 𝟙 → ⊥

-- the code over E whose base matrix and diagonals are those of a code over F, each element taken into E
abbrev pub extend : (F E : Field) → (F.ring.R → E.ring.R) → Code F → Code E
extend F E ι C = record { n₀ = C.n₀; G₀ = map (map ι) C.G₀; T = λ i. map ι (C.T i); T' = λ i. map ι (C.T' i) }
