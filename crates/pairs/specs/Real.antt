-- With all imaginary halves zero, values, openings and verdicts over the pairs are those over F. Assumes nothing.
use Rattle.std.specs.Prelude.{◌≡◌, refl, List, [], map, ℕ, length}
use Rattle.std.proofs.Common.{sym}
use Rattle.algebra.specs.Field.{Field}
use Rattle.algebra.specs.Numerals.{num}
use Rattle.algebra.specs.Algebra.{algebra, quote, from₁}
use Rattle.foldable.specs.Code.{Code, Legal}
use Rattle.multilinear.specs.Polynomial.{poly}
use Rattle.basefold.specs.Checks.{first_failure, checks}
use Rattle.basefold.specs.Honest.{Queries}
use Rattle.basefold.specs.Written.{opening}
use Rattle.pairs.specs.Pair.{real, NoRoot, extend}
use Rattle.pairs.specs.Square.{square_field}
use Rattle.pairs.specs.Extend.{real_homomorphism}
use Rattle.pairs.specs.Polynomials.{poly_image}
use Rattle.pairs.specs.Openings.{opening_image}
use Rattle.pairs.specs.Verdicts.{checks_image, verdict_image}

module _ (F : Field) (no_root : NoRoot F) where
  open F use {ring as K}
  open K use {R, 𝟘, 𝟙}

  -- else 1 is a root of -1
  two_apart : num K 2 ≡ 𝟘 → ⊥
  two_apart e = no_root 𝟙 (from₁ K 𝟙 e (algebra K [] (search quote depth 20) refl))

  -- the pairs
  abbrev E : Field
  E = square_field F no_root

  pub poly_real : (m z : List R) → poly E.ring (map (real K) m) (map (real K) z) ≡ real K (poly K m z)
  poly_real m z = sym (poly_image F E (real K) (real_homomorphism F no_root) m z)

  module _ (low : ℕ) (C : Code F) where
    -- the code over the pairs
    abbrev D : Code E
    D = extend F E (real K) C

    -- an opening written from elements of F holds only such
    pub opening_real : (m z r : List R) → Legal F C (length r)
        → opening E low D (map (real K) m) (map (real K) z) (map (real K) r) ≡ map (real K) (opening F low C m z r)
    opening_real m z r 𝓛 = sym (opening_image F E (real K) (real_homomorphism F no_root) low C m z r 𝓛)

    module _ (w z : List R) (y : R) (r : List R) (us : List ℕ) (o : List R) (𝓛 : Legal F C (length r)) (𝓠 : Queries C.n₀ (length r) us) where
      -- each check with whether it holds, and so the first that fails
      pub checks_real : checks E low D (map (real K) w) (map (real K) z) (real K y) (map (real K) r) us (map (real K) o) ≡ checks F low C w z y r us o
      checks_real = checks_image F E (real K) (real_homomorphism F no_root) two_apart low C w z y r us o 𝓛 𝓠

      pub verdict_real : first_failure (checks E low D (map (real K) w) (map (real K) z) (real K y) (map (real K) r) us (map (real K) o)) ≡ first_failure (checks F low C w z y r us o)
      verdict_real = verdict_image F E (real K) (real_homomorphism F no_root) two_apart low C w z y r us o 𝓛 𝓠
