use mathlib.Core.Path.{refl, sym, ◌∙◌}
use mathlib.Core.List.{[], ◌∷◌}
use lib.ListN.{length}
use Rattle.algebra.specs.Tests.{all, and_both}
use Rattle.residue.specs.Chosen.{chosen}
use Rattle.job.specs.declared.Input.TheVariants.{Block}
use Rattle.parameters.specs.ParameterLaws.{one_below}
use Rattle.base_parameters.specs.ParameterLaws.{judged_by}
use Rattle.decode.specs.Decoding.{decode_lengths, judge_decoding}
use Rattle.decode.specs.Laws.{decode_sized, decode_flagged}
use Rattle.decode.proofs.decode.judge.Goals as goal

pub judge-requires : goal.judge-requires
judge-requires c =
    let a = c.args in
    let l = c.lengths_ok-lengths.ensures in (
      decode_sized a.p.depth a.p.rate a.p.k0 a.g.now a.t.now a.t2.now a.block.now a.out a.work l,
      decode_flagged a.p.depth a.p.rate a.p.k0 a.g.now a.t.now a.t2.now a.block.now a.out a.work l (chosen a.field) c.scan_row-row.ensures (λ f. (and_both _ _ (sym c.all_words_ok.ensures ∙ f)).0),
    )

pub returns : goal.returns
unfolding judge_decoding all
returns c =
    let a = c.args in
    let 𝓕 = chosen a.field in
    judged_by 𝓕 a.p.depth a.p.rate a.p.k0 a.g.now a.t.now a.t2.now a.block.now [] [] [] []
    (decode_lengths a.p.depth a.p.rate a.p.k0 (length a.g.now) (length a.t.now) (length a.t2.now) (length a.block.now) a.out a.work)
    ((Block, a.block.now) ∷ []) refl c.lengths_ok-lengths.ensures c.scan_row-row.ensures (one_below 𝓕 Block a.block.now c.all_words_ok.ensures) c.judge.ensures
