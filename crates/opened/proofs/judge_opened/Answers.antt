use mathlib.Core.Path.{refl}
use mathlib.Core.List.{[], ◌∷◌}
use lib.ListN.{length}
use Rattle.residue.specs.Chosen.{chosen}
use Rattle.base_parameters.specs.ParameterLaws.{judged_by}
use Rattle.opened.specs.Opened.{opened_lengths, claim_inputs}
use Rattle.opened.proofs.Flags.{opened_flagged, claim_below}
use Rattle.opened.proofs.judge_opened.Goals as goal

pub judge-requires : goal.judge-requires
judge-requires c =
    let a = c.args in
    opened_flagged (chosen a.field) a.p.depth a.p.rate a.p.k0 a.g.now a.t.now a.t2.now a.block.now a.z.now a.y a.r.now a.opening.now c.lengths_ok-lengths.ensures c.scan_row-row.ensures c.words_ok.ensures

pub returns : goal.returns
returns c =
    let a = c.args in
    let L = opened_lengths a.p.depth a.p.rate a.p.k0 (length a.g.now) (length a.t.now) (length a.t2.now) (length a.block.now) (length a.z.now) (length a.r.now) (length a.opening.now) in
    judged_by (chosen a.field) a.p.depth a.p.rate a.p.k0 a.g.now a.t.now a.t2.now a.block.now a.z.now (a.y ∷ []) a.r.now a.opening.now L
    (claim_inputs a.block.now a.z.now a.y a.r.now a.opening.now) refl c.lengths_ok-lengths.ensures c.scan_row-row.ensures
    (claim_below (chosen a.field) a.block.now a.z.now a.y a.r.now a.opening.now c.words_ok.ensures) c.judge.ensures
