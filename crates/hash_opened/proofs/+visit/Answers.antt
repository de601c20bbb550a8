use mathlib.Core.Path.{◌∙◌}
use Prim.Native.Nat.{◌-◌}
use native.Mathlib.Omega.{arith}
use Rattle.hash_root.proofs.Nodes.{place_in, child_in, right_in, joined}
use Rattle.hash_opened.proofs.Joins.{paths_joined}
use Rattle.hash_opened.proofs.Paths.{leaf_paths, no_paths, low_height}
use Rattle.hash_opened.proofs.+visit.Goals as goal

pub node_of-requires : goal.node_of-requires
node_of-requires t c = c.requires.0

pub returns-then-t-eq0 : goal.returns-then-t-eq0
returns-then-t-eq0 t c = let a = c.args in (c.node_of.ensures, leaf_paths a.block.now a.t a.j a.slots.now.queries.now a.slots.now.first a.slots.now.stride a.out.now c.if-t-eq0.true)

pub untouched-requires : goal.untouched-requires
untouched-requires t c =
    let a = c.args in
    let p = place_in _ a.t a.j c.requires.0 in
    let q = low_height _ a.t a.j c.requires.0 (omega (arith, c.well_formed.0)) in
    (omega arith, omega arith)

pub node_of-requires-then-untouched : goal.node_of-requires-then-untouched
node_of-requires-then-untouched t c = c.requires.0

pub returns-then-untouched : goal.returns-then-untouched
returns-then-untouched t c =
    let a = c.args in
    (c.node_of-then-untouched.ensures, no_paths a.block.now a.t a.j a.slots.now.queries.now a.slots.now.first a.slots.now.stride a.out.now c.untouched.ensures c.if-untouched.true)

pub overflow_mul-j : goal.overflow_mul-j
overflow_mul-j t c = let a = c.args in omega (arith, right_in _ a.t (a.t - 1) a.j (omega arith) c.requires.0)

pub visit-left-requires : goal.visit-left-requires
visit-left-requires t c =
    let a = c.args in
    let r = c.requires.1 in
    (omega (arith, c.decreases), (child_in _ a.t (a.t - 1) a.j _ (omega arith) (omega arith) c.requires.0, record { one = omega arith; all = r.all }))

pub overflow_mul-j-2 : goal.overflow_mul-j-2
overflow_mul-j-2 t c = let a = c.args in omega (arith, right_in _ a.t (a.t - 1) a.j (omega arith) c.requires.0)

pub overflow_add-j : goal.overflow_add-j
overflow_add-j t c = let a = c.args in omega (arith, right_in _ a.t (a.t - 1) a.j (omega arith) c.requires.0)

pub visit-right-requires : goal.visit-right-requires
visit-right-requires t c =
    let a = c.args in
    let r = c.requires.1 in
    let k = c.visit-left.auto.out in
    (omega (arith, c.decreases), (child_in _ a.t (a.t - 1) a.j _ (omega arith) (omega arith) c.requires.0, record { one = omega arith; all = omega arith }))

pub join-requires : goal.join-requires
join-requires t c =
    let a = c.args in
    let r = c.requires.1 in
    let k = c.visit-left.auto.out in
    let l = c.visit-right.auto.out in
    let p = place_in _ a.t a.j c.requires.0 in
    let q = low_height _ a.t a.j c.requires.0 (omega (arith, c.well_formed.0)) in
    (omega arith, omega arith, record { one = omega arith; all = omega arith })

pub shape_of-out : goal.shape_of-out
shape_of-out t c = c.join.auto.out ∙ c.visit-right.auto.out ∙ c.visit-left.auto.out

pub returns : goal.returns
returns t c =
    let a = c.args in
    let w = a.block.now in
    let v = c.visit-left in
    let x = c.visit-right in
    let y = c.join in
    let z = c.if-t-eq0.false in (
      joined w a.t (a.t - 1) a.j (omega arith) v.ensures.0 x.ensures.0 y.ensures.0,
      paths_joined w a.slots.now.queries.now a.t (a.t - 1) a.j a.slots.now.first a.slots.now.stride a.out.now v.result.bytes x.result.bytes (omega arith) c.requires.1 v.ensures.0 x.ensures.0 v.ensures.1 x.ensures.1 y.ensures.1,
    )
