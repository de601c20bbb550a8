-- The inputs of a call as the code takes them, in one record. Definitions only. Assumes nothing.
use Rattle.std.specs.Prelude.{List}
use Rattle.places.specs.declared.inputs.Inputs.{Inputs}
use Rattle.places.specs.Inputs.{Lent, Short, in_order}

-- in the order in which their words are judged
abbrev pub ordered : Inputs → List Lent
ordered i = in_order i.g.now i.t.now i.t2.now i.block.now i.z.now i.y.now i.r.now i.opening.now

-- each word has an index
abbrev pub AllShort : Inputs → Type 0
AllShort i = Short i.g.now i.t.now i.t2.now i.block.now i.z.now i.y.now i.r.now i.opening.now
