use mathlib.Core.Path.{ap, ◌∙◌}
use lib.Dec.{ltb}
use lib.ListN.{length}
use borrow.Author.Rules.{rules}
use Rattle.job.specs.Outcome.{input_number}
use Rattle.residue.specs.Elements.{P}
use Rattle.residue.specs.Chosen.{chosen}
use Rattle.words.specs.Scans.{all_below}
use Rattle.places.specs.Places.{high_place}
use Rattle.places.specs.PlaceLaws.{place_first, place_none}
use Rattle.places.proofs.Chained.{ended, passed_all}
use Rattle.places.proofs.inputs.all_in.Goals as goal

pub returns-then-k-s : goal.returns-then-k-s
returns-then-k-s c =
    let a = c.args in
    let 𝓕 = chosen a.field in
    let s = a.s.now in
    ended (all_below 𝓕 s) (λ k. (4, k, input_number a.input)) (high_place (P 𝓕) s) (length s) _
    (c.first_high-k.ensures ∙ ap (λ p. high_place p s) c.modulus.ensures) (place_none (λ w. ltb w (P 𝓕)) s) c.if-k-s.true

pub returns : goal.returns
returns c =
    let a = c.args in
    let 𝓕 = chosen a.field in
    let s = a.s.now in
    passed_all (all_below 𝓕 s) (λ k. (4, k, input_number a.input)) (high_place (P 𝓕) s) (length s) _
    (c.first_high-k.ensures ∙ ap (λ p. high_place p s) c.modulus.ensures) (λ q. (place_first (λ w. ltb w (P 𝓕)) s q).within) (search rules)
