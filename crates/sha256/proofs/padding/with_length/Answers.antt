use mathlib.Core.Path.{◌≡◌, sym, ◌∙◌, ap, ap₂}
use mathlib.Core.List.{◌++◌, append_assoc}
use Prim.Native.Nat.{◌+◌, ◌-◌}
use native.Mathlib.Omega.{arith}
use lib.ListN.{take, drop}
use lib.Seq.{drop-drop}
use Rattle.sha256.proofs.Places.{eight_bytes}
use Rattle.sha256.proofs.padding.with_length.Goals as goal

pub returns : goal.returns
returns c =
    let a = c.args in
    let end : a.at + (a.at + 8 - a.at) ≡ a.at + 8 = omega arith in
    ap₂ (λ r l. take a.at a.block ++ (r ++ l)) (c.copy_from_slice.ensures.after ∙ eight_bytes a.n c.to_be_bytes.ensures)
    (drop-drop (a.at + 8 - a.at) a.at a.block ∙ ap (λ k. drop k a.block) end)
    ∙ sym (append_assoc (take a.at a.block) _ _)
