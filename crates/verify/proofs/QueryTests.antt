-- What holds of a query list that 7 passes. Assumes nothing.
use mathlib.Core.Path.{◌≡◌}
use mathlib.Core.Bool.{true}
use mathlib.Core.List.{List}
use Prim.Native.Nat.{ℕ, zero, suc}
use native.Mathlib.Omega.{arith}
use lib.Dec.{leb, ltb}
use lib.ListN.{length}
use borrow.Author.Tests.{eqb-true, leb-true, ltb-true}
use Rattle.algebra.specs.Tests.{all_at, and_both}
use Rattle.job.specs.Limits.{block_size}
use Rattle.walks.specs.Steps.{QueryPlaces}
use Rattle.queries.specs.Queries.{max_queries, queries_ok}

pub query_places : (d c : ℕ) (us : List ℕ) → queries_ok d c us ≡ true → QueryPlaces c d us
unfolding queries_ok
query_places zero c us e = let z : length us ≡ 0 = eqb-true (length us) 0 e in record { few = omega arith; start = λ k h. tt }
query_places (suc d) c us e =
    let a = and_both (leb 1 (length us)) _ e in
    let b = and_both (leb (length us) max_queries) _ a.1 in
    let most = leb-true (length us) max_queries b.0 in
    record { few = omega arith; start = λ k h. ltb-true _ _ (all_at (λ u. ltb u (block_size c d)) us 0 b.1 k h) }
