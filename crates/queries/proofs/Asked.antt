-- The query list's test, at depth 0 and above. Assumes nothing.
use mathlib.Core.Path.{◌≡◌, refl, sym, ap}
use mathlib.Core.Bool.{◌&&◌}
use mathlib.Core.List.{List}
use Prim.Native.Nat.{ℕ, zero, suc, ◌-◌}
use native.Mathlib.Omega.{arith}
use lib.Dec.{eqb, leb}
use lib.ListN.{length}
use Rattle.job.specs.Limits.{block_size}
use Rattle.words.specs.Scans.{all_under}
use Rattle.queries.specs.Queries.{max_queries, queries_ok}

pub queries_none : (d c : ℕ) (us : List ℕ) → d ≡ 0 → eqb (length us) 0 ≡ queries_ok d c us
unfolding queries_ok
queries_none zero c us e = refl
queries_none (suc d) c us e = absurd (omega arith)

pub queries_some : (d c : ℕ) (us : List ℕ) → (d ≡ 0 → ⊥) → queries_ok d c us ≡ (leb 1 (length us) && (leb (length us) max_queries && all_under (block_size c (d - 1)) us))
unfolding queries_ok
queries_some zero c us e = absurd (e refl)
queries_some (suc d) c us e =
    let one : suc d - 1 ≡ d = omega arith in
    sym (ap (λ k. leb 1 (length us) && (leb (length us) max_queries && all_under (block_size c k) us)) one)
