-- What of a query list is refused. Definitions only. Assumes nothing.
use Rattle.std.specs.Prelude.{Bool, ◌&&◌, List, ℕ, zero, suc, eqb, leb, length}
use Rattle.job.specs.Outcome.{Outcome, require, ◌⨾◌}
use Rattle.job.specs.Limits.{block_size}
use Rattle.words.specs.Scans.{all_under}
use Rattle.queries.specs.Distinct.{distinct}

abbrev pub max_queries : ℕ
max_queries = 256

-- at depth 0 no query; above, from 1 to the most, each a place of the block below the top one, with base blocks of n words
unfoldable pub queries_ok : ℕ → ℕ → List ℕ → Bool
queries_ok zero n us = eqb (length us) 0
queries_ok (suc i) n us = leb 1 (length us) && (leb (length us) max_queries && all_under (block_size n i) us)

-- the refusals, in their order: wherever a place too large stands, and whatever stands twice, 7 comes first
unfoldable pub judge_queries : ℕ → ℕ → List ℕ → Outcome (Unit {0})
judge_queries d n us = require (queries_ok d n us) 7 ⨾ require (distinct us) 11
