-- What holds where the job is done, and that it is done where it holds. Assumes nothing.
use Rattle.std.specs.Prelude.{◌≡◌, true, List, ℕ, eqb, ℤ, length}
use Rattle.std.proofs.Common.{eq-eqb, eqb-true}
use Rattle.algebra.specs.Words.{PrimeField}
use Rattle.algebra.specs.Tests.{all}
use Rattle.job.specs.Outcome.{done}
use Rattle.job.specs.OutcomeLaws.{pass, holds, require_done, held}
use Rattle.job.specs.Sizes.{k0_ok}
use Rattle.clearance.specs.Clearances.{in_range}
use Rattle.table_length.specs.Depth.{is_power, table_ok}
use Rattle.table_length.specs.DepthLaws.{table_power}
use Rattle.coefficients.specs.Job.{judge_table}

module _ (𝓕 : PrimeField) (k : ℕ) (t : List ℤ) (n : ℕ) where
  pub record TableLegal : Type 0 where
    pub fits : table_ok k (length t) ≡ true
    pub power : is_power (length t) ≡ true
    pub base : k0_ok k ≡ true
    pub same : n ≡ length t
    pub range : all (in_range 𝓕) t ≡ true

  pub table_passed : judge_table 𝓕 k t n ≡ done tt → TableLegal
  table_passed e =
      let a = require_done (table_ok k (length t)) 1 e in
      let b = require_done (k0_ok k) 13 a.1 in
      let c = require_done (eqb n (length t)) 3 b.1 in
      record { fits = a.0; power = table_power k (length t) a.0; base = b.0; same = eqb-true n (length t) c.0; range = held (all (in_range 𝓕) t) 9 c.1 }

  pub table_done : table_ok k (length t) ≡ true → k0_ok k ≡ true → n ≡ length t → all (in_range 𝓕) t ≡ true → done tt ≡ judge_table 𝓕 k t n
  table_done p b q r = pass 1 p (pass 13 b (pass 3 (eq-eqb n (length t) q) (holds 9 r)))
