use Rattle.std.proofs.Common.{◌≡◌, ◌<◌, Bool, true, false, refl, sym, ap, ◌∙◌, not, lt-ltb, ltb-true, leb-true, arith}
use Rattle.std.proofs.lemmas.Bool.{false≢true}
use Rattle.algebra.specs.Flags.{goes}
use Rattle.residue.specs.Elements.{P}
use Rattle.residue.specs.Chosen.{chosen}
use Rattle.opened.proofs.words_ok.Goals as goal
use Rattle.opened.proofs.words_ok.Goals.{then-row, else-row, then-all_below, else-all_below, then-all_below-2, else-all_below-2, then-y-modulus, else-y-modulus}

-- a test that stopped has not passed
stopped : {A : Type 0} {a b : Bool} → a ≡ false → b ≡ a → b ≡ true → A
stopped f e t = absurd (false≢true (sym f ∙ sym e ∙ t))

pub returns-then-all_below-3 : goal.returns-then-all_below-3
returns-then-all_below-3 c =
    elim c.if-y-modulus.branch [
      | then-y-modulus w ↦
          elim c.if-all_below-2.branch [
            | then-all_below-2 v ↦
                let y : c.args.y < P (chosen c.args.field) = omega (arith, ltb-true, leb-true, sym v.value-is ∙ w.if-y-modulus.true) in
                elim c.if-all_below.branch [
                  | then-all_below u ↦
                      elim c.if-row.branch [
                        | then-row t ↦
                            goes {a = c.args.row} refl (ap not t.if-row.true)
                            (rw (sym t.all_below.ensures ∙ sym t.value-is ∙ u.if-all_below.true, sym u.all_below-then-all_below.ensures ∙ sym u.value-is ∙ v.if-all_below-2.true, lt-ltb _ _ y, sym w.all_below-then-y-modulus.ensures ∙ sym w.value-is ∙ c.if-all_below-3.true)
                            c.all_below-then-all_below-3.ensures)
                        | else-row t ↦ stopped t.if-row.false t.value-is u.if-all_below.true
                      ]
                  | else-all_below u ↦ stopped u.if-all_below.false u.value-is v.if-all_below-2.true
                ]
            | else-all_below-2 v ↦ stopped v.if-all_below-2.false v.value-is w.if-y-modulus.true
          ]
      | else-y-modulus w ↦ stopped w.if-y-modulus.false w.value-is c.if-all_below-3.true
    ]
