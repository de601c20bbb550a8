use mathlib.Core.Path.{refl, sym, ◌∙◌}
use mathlib.Core.List.{[], ◌∷◌}
use lib.ListN.{length}
use Rattle.algebra.specs.Tests.{all, and_both}
use Rattle.residue.specs.Chosen.{chosen}
use Rattle.job.specs.declared.Input.TheVariants.{Block}
use Rattle.parameters.specs.ParameterLaws.{one_below}
use Rattle.base_parameters.specs.ParameterLaws.{judged_by}
use Rattle.encode.specs.Encoding.{encode_lengths, judge_encoding}
use Rattle.encode.specs.EncodingLaws.{encode_sized, encode_flagged}
use Rattle.encode.proofs.judge.Goals as goal

pub judge-requires : goal.judge-requires
judge-requires c =
    let a = c.args in
    let l = c.lengths_ok-lengths.ensures in (
      encode_sized a.p.depth a.p.rate a.p.k0 a.g.now a.t.now a.t2.now a.m.now a.out l,
      encode_flagged a.p.depth a.p.rate a.p.k0 a.g.now a.t.now a.t2.now a.m.now a.out l (chosen a.field) c.scan_row-row.ensures (λ f. (and_both _ _ (sym c.all_words_ok.ensures ∙ f)).0),
    )

pub returns : goal.returns
unfolding judge_encoding all
returns c =
    let a = c.args in
    let 𝓕 = chosen a.field in
    judged_by 𝓕 a.p.depth a.p.rate a.p.k0 a.g.now a.t.now a.t2.now a.m.now [] [] [] []
    (encode_lengths a.p.depth a.p.rate a.p.k0 (length a.g.now) (length a.t.now) (length a.t2.now) (length a.m.now) a.out)
    ((Block, a.m.now) ∷ []) refl c.lengths_ok-lengths.ensures c.scan_row-row.ensures (one_below 𝓕 Block a.m.now c.all_words_ok.ensures) c.judge.ensures
