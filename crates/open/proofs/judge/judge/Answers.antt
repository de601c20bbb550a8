use mathlib.Core.Path.{refl}
use mathlib.Core.List.{[]}
use lib.ListN.{length}
use Rattle.algebra.specs.Tests.{all}
use Rattle.residue.specs.Chosen.{chosen}
use Rattle.base_parameters.specs.ParameterLaws.{judged_by}
use Rattle.open.specs.Writing.{write_lengths, judge_writing}
use Rattle.open.specs.WritingLaws.{write_inputs}
use Rattle.open.proofs.Judged.{write_flagged, words_below}
use Rattle.open.proofs.judge.judge.Goals as goal

pub judge-requires : goal.judge-requires
judge-requires c =
    let a = c.args in
    write_flagged (chosen a.field) a.p.depth a.p.rate a.p.k0 a.g.now a.t.now a.t2.now a.m.now a.z.now a.r.now a.o a.s c.lengths_ok-lengths.ensures c.scan_row-row.ensures c.words_ok.ensures

pub returns : goal.returns
unfolding judge_writing all
returns c =
    let a = c.args in
    let 𝓕 = chosen a.field in
    judged_by 𝓕 a.p.depth a.p.rate a.p.k0 a.g.now a.t.now a.t2.now a.m.now a.z.now [] a.r.now []
    (write_lengths a.p.depth a.p.rate a.p.k0 (length a.g.now) (length a.t.now) (length a.t2.now) (length a.m.now) (length a.z.now) (length a.r.now) a.o a.s)
    (write_inputs a.m.now a.z.now a.r.now) refl c.lengths_ok-lengths.ensures c.scan_row-row.ensures
    (words_below 𝓕 a.m.now a.z.now a.r.now c.words_ok.ensures) c.judge.ensures
