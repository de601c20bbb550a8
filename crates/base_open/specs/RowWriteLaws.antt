-- Within the limits of depth, rate and k0, at the sizes that they give, an opening may be written. Assumes nothing.
use Rattle.std.specs.Prelude.{◌≡◌, true, List, ℕ, ◌+◌, ◌*◌, ◌≤◌, length}
use Rattle.std.proofs.Common.{sym, ap, ◌∙◌, arith, leb-true}
use Rattle.algebra.specs.Tests.{and_both}
use Rattle.algebra.specs.Words.{PrimeField}
use Rattle.algebra.specs.WordLists.{Low}
use Rattle.job.specs.Limits.{max_depth, diagonals_size}
use Rattle.words.specs.Scans.{all_differ}
use Rattle.cofactor.specs.RowLaws.{lent_rate}
use Rattle.job.specs.Sizes.{depth_ok, in_limits, base_size, message_size, matrix_size, low, point_size, opening_size}
use Rattle.job.specs.SizeLaws.{depth_by_point, within, base_most}
use Rattle.base_spread.specs.LentRowLaws.{row_coding}
use Rattle.base_rounds.specs.RowOpening.{WriteInput}

module _ (𝓕 : PrimeField) where
  open 𝓕 use {modulus as P}

  -- each as long as depth, rate and k0 say
  pub record Lengths (d c k : ℕ) (g t t' m z r : List ℕ) : Type 0 where
    pub matrix : length g ≡ matrix_size c k
    pub first : length t ≡ diagonals_size (base_size c k) d
    pub second : length t' ≡ diagonals_size (base_size c k) d
    pub message : length m ≡ message_size d k
    pub point : length z ≡ point_size d k
    pub challenges : length r ≡ d

  -- each word below the modulus
  pub record Below (g t t' m z r : List ℕ) : Type 0 where
    pub matrix : Low P g
    pub first : Low P t
    pub second : Low P t'
    pub message : Low P m
    pub point : Low P z
    pub challenges : Low P r

  -- and T and T' apart: what the tests of a job say is all that is asked
  pub write_input : (d c k : ℕ) (g t t' m z r : List ℕ) → in_limits d c k ≡ true → Lengths d c k g t t' m z r → Below g t t' m z r → all_differ t t' ≡ true
      → WriteInput 𝓕 d (low k) k (base_size c k) g t t' m z r (opening_size d c k) (2 * message_size d k)
  write_input d c k g t t' m z r e 𝓛 𝓑 a =
      let 𝓦 = within d c k e in
      let deep : point_size d k ≤ max_depth = leb-true (point_size d k) max_depth (depth_by_point k d ∙ (and_both (depth_ok k d) _ e).0) in
      record {
        deep = omega arith;
        wide = base_most 𝓦;
        rows = 𝓦.power;
        coding = row_coding 𝓕 (lent_rate 𝓕 c k g 𝓦.least 𝓦.size 𝓛.matrix 𝓑.matrix) 𝓛.first 𝓛.second 𝓑.first 𝓑.second a;
        message = 𝓛.message;
        point = omega (arith, 𝓛.point);
        challenges = 𝓛.challenges;
        message_low = 𝓑.message;
        point_low = 𝓑.point;
        challenges_low = 𝓑.challenges;
        opens = ap (λ x. 3 * d + x + diagonals_size (base_size c k) d) (sym 𝓦.power);
        room = λ _. 2 * message_size d k;
      }
