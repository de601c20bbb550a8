-- What holds where the job is done, and that it is done where it holds. Assumes nothing.
use Rattle.std.specs.Prelude.{◌≡◌, refl, true, ◌&&◌, List, ℕ, eqb, length}
use Rattle.std.proofs.Common.{ap₂, eq-eqb, eqb-true}
use Rattle.algebra.specs.Words.{PrimeField}
use Rattle.algebra.specs.Tests.{and_both}
use Rattle.job.specs.Outcome.{done}
use Rattle.job.specs.OutcomeLaws.{pass, pass_demand, require_done, demand_done}
use Rattle.job.specs.Sizes.{k0_ok}
use Rattle.words.specs.Scans.{all_below}
use Rattle.table_length.specs.Depth.{is_power, table_ok}
use Rattle.table_length.specs.DepthLaws.{table_power}
use Rattle.table.specs.Job.{judge_message}

module _ (𝓕 : PrimeField) (k : ℕ) (m : List ℕ) (n w : ℕ) where
  pub record MessageLegal : Type 0 where
    pub fits : table_ok k (length m) ≡ true
    pub power : is_power (length m) ≡ true
    pub base : k0_ok k ≡ true
    pub same : n ≡ length m
    pub room : w ≡ length m
    pub below : all_below 𝓕 m ≡ true

  pub message_passed : judge_message 𝓕 k m n w ≡ done tt → MessageLegal
  message_passed e =
      let a = require_done (table_ok k (length m)) 1 e in
      let b = require_done (k0_ok k) 13 a.1 in
      let c = require_done (eqb n (length m) && eqb w (length m)) 3 b.1 in
      let l = and_both (eqb n (length m)) (eqb w (length m)) c.0 in
      record {
        fits = a.0;
        power = table_power k (length m) a.0;
        base = b.0;
        same = eqb-true n (length m) l.0;
        room = eqb-true w (length m) l.1;
        below = (demand_done (all_below 𝓕 m) _ c.1).0;
      }

  pub message_done : table_ok k (length m) ≡ true → k0_ok k ≡ true → n ≡ length m → w ≡ length m → all_below 𝓕 m ≡ true → done tt ≡ judge_message 𝓕 k m n w
  message_done p b q s r = pass 1 p (pass 13 b (pass 3 (ap₂ ◌&&◌ (eq-eqb n (length m) q) (eq-eqb w (length m) s)) (pass_demand _ r refl)))
