use mathlib.Core.Path.{refl}
use Rattle.residue.specs.declared.Field.TheVariants.{First, Second}
use Rattle.transform.proofs.Passing.{known_asks, known_end}
use Rattle.transform.proofs.sweep.Goals as goal

pub pass-requires : goal.pass-requires
pass-requires c =
    let a = c.args in
    known_asks a.way a.count a.s.now First 1 c.in-First.is c.in-1.is c.requires

pub pass-requires-in-2 : goal.pass-requires-in-2
pass-requires-in-2 c =
    let a = c.args in
    known_asks a.way a.count a.s.now First 2 c.in-First.is c.in-2.is c.requires

pub pass-requires-in-4 : goal.pass-requires-in-4
pass-requires-in-4 c =
    let a = c.args in
    known_asks a.way a.count a.s.now First 4 c.in-First.is c.in-4.is c.requires

pub pass-requires-in-8 : goal.pass-requires-in-8
pass-requires-in-8 c =
    let a = c.args in
    known_asks a.way a.count a.s.now First 8 c.in-First.is c.in-8.is c.requires

pub pass-requires-in-16 : goal.pass-requires-in-16
pass-requires-in-16 c =
    let a = c.args in
    known_asks a.way a.count a.s.now First 16 c.in-First.is c.in-16.is c.requires

pub pass-requires-in_default : goal.pass-requires-in_default
pass-requires-in_default c =
    let a = c.args in
    known_asks a.way a.count a.s.now First a.half c.in-First.is refl c.requires

pub pass-requires-in-1-half : goal.pass-requires-in-1-half
pass-requires-in-1-half c =
    let a = c.args in
    known_asks a.way a.count a.s.now Second 1 c.in-Second.is c.in-1-half.is c.requires

pub pass-requires-in-2-half : goal.pass-requires-in-2-half
pass-requires-in-2-half c =
    let a = c.args in
    known_asks a.way a.count a.s.now Second 2 c.in-Second.is c.in-2-half.is c.requires

pub pass-requires-in-4-half : goal.pass-requires-in-4-half
pass-requires-in-4-half c =
    let a = c.args in
    known_asks a.way a.count a.s.now Second 4 c.in-Second.is c.in-4-half.is c.requires

pub pass-requires-in-8-half : goal.pass-requires-in-8-half
pass-requires-in-8-half c =
    let a = c.args in
    known_asks a.way a.count a.s.now Second 8 c.in-Second.is c.in-8-half.is c.requires

pub pass-requires-in-16-half : goal.pass-requires-in-16-half
pass-requires-in-16-half c =
    let a = c.args in
    known_asks a.way a.count a.s.now Second 16 c.in-Second.is c.in-16-half.is c.requires

pub pass-requires-in_default-half : goal.pass-requires-in_default-half
pass-requires-in_default-half c =
    let a = c.args in
    known_asks a.way a.count a.s.now Second a.half c.in-Second.is refl c.requires

pub shape_of-s-in-1 : goal.shape_of-s-in-1
shape_of-s-in-1 c = c.pass.auto.s

pub returns-in-1 : goal.returns-in-1
returns-in-1 c =
    let a = c.args in
    known_end a.way a.count a.s.now First 1 c.in-First.is c.in-1.is c.pass.ensures

pub shape_of-s-in-2 : goal.shape_of-s-in-2
shape_of-s-in-2 c = c.pass-in-2.auto.s

pub returns-in-2 : goal.returns-in-2
returns-in-2 c =
    let a = c.args in
    known_end a.way a.count a.s.now First 2 c.in-First.is c.in-2.is c.pass-in-2.ensures

pub shape_of-s-in-4 : goal.shape_of-s-in-4
shape_of-s-in-4 c = c.pass-in-4.auto.s

pub returns-in-4 : goal.returns-in-4
returns-in-4 c =
    let a = c.args in
    known_end a.way a.count a.s.now First 4 c.in-First.is c.in-4.is c.pass-in-4.ensures

pub shape_of-s-in-8 : goal.shape_of-s-in-8
shape_of-s-in-8 c = c.pass-in-8.auto.s

pub returns-in-8 : goal.returns-in-8
returns-in-8 c =
    let a = c.args in
    known_end a.way a.count a.s.now First 8 c.in-First.is c.in-8.is c.pass-in-8.ensures

pub shape_of-s-in-16 : goal.shape_of-s-in-16
shape_of-s-in-16 c = c.pass-in-16.auto.s

pub returns-in-16 : goal.returns-in-16
returns-in-16 c =
    let a = c.args in
    known_end a.way a.count a.s.now First 16 c.in-First.is c.in-16.is c.pass-in-16.ensures

pub shape_of-s-in_default : goal.shape_of-s-in_default
shape_of-s-in_default c = c.pass-in_default.auto.s

pub returns-in_default : goal.returns-in_default
returns-in_default c =
    let a = c.args in
    known_end a.way a.count a.s.now First a.half c.in-First.is refl c.pass-in_default.ensures

pub shape_of-s-in-1-half : goal.shape_of-s-in-1-half
shape_of-s-in-1-half c = c.pass-in-1-half.auto.s

pub returns-in-1-half : goal.returns-in-1-half
returns-in-1-half c =
    let a = c.args in
    known_end a.way a.count a.s.now Second 1 c.in-Second.is c.in-1-half.is c.pass-in-1-half.ensures

pub shape_of-s-in-2-half : goal.shape_of-s-in-2-half
shape_of-s-in-2-half c = c.pass-in-2-half.auto.s

pub returns-in-2-half : goal.returns-in-2-half
returns-in-2-half c =
    let a = c.args in
    known_end a.way a.count a.s.now Second 2 c.in-Second.is c.in-2-half.is c.pass-in-2-half.ensures

pub shape_of-s-in-4-half : goal.shape_of-s-in-4-half
shape_of-s-in-4-half c = c.pass-in-4-half.auto.s

pub returns-in-4-half : goal.returns-in-4-half
returns-in-4-half c =
    let a = c.args in
    known_end a.way a.count a.s.now Second 4 c.in-Second.is c.in-4-half.is c.pass-in-4-half.ensures

pub shape_of-s-in-8-half : goal.shape_of-s-in-8-half
shape_of-s-in-8-half c = c.pass-in-8-half.auto.s

pub returns-in-8-half : goal.returns-in-8-half
returns-in-8-half c =
    let a = c.args in
    known_end a.way a.count a.s.now Second 8 c.in-Second.is c.in-8-half.is c.pass-in-8-half.ensures

pub shape_of-s-in-16-half : goal.shape_of-s-in-16-half
shape_of-s-in-16-half c = c.pass-in-16-half.auto.s

pub returns-in-16-half : goal.returns-in-16-half
returns-in-16-half c =
    let a = c.args in
    known_end a.way a.count a.s.now Second 16 c.in-Second.is c.in-16-half.is c.pass-in-16-half.ensures

pub shape_of-s-in_default-half : goal.shape_of-s-in_default-half
shape_of-s-in_default-half c = c.pass-in_default-half.auto.s

pub returns-in_default-half : goal.returns-in_default-half
returns-in_default-half c =
    let a = c.args in
    known_end a.way a.count a.s.now Second a.half c.in-Second.is refl c.pass-in_default-half.ensures
