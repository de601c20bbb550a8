use borrow.Author.Rules.{rules}
use Rattle.residue.specs.Chosen.{chosen}
use Rattle.cofactor.proofs.Minors.{minor_one}
use Rattle.cofactor.proofs.minor.Goals as goal

pub returns-in_default : goal.returns-in_default
returns-in_default c = minor_one (chosen c.args.field) _ _ _ _ c.requires (search rules) (search rules)
