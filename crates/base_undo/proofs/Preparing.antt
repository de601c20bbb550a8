-- A column and the inverses behind it. Assumes nothing.
use mathlib.Core.Path.{◌≡◌, ap, ap₂, sym, ◌∙◌}
use mathlib.Core.List.{List, ◌++◌, append_assoc}
use Prim.Native.Nat.{ℕ, ◌+◌, ◌*◌, ◌-◌, ◌^◌, ◌<◌, ◌≤◌}
use native.Mathlib.Nat.{mul_comm}
use native.Mathlib.Omega.{arith}
use lib.ListN.{length, take, drop, length-append, length-take, length-drop, take-append-drop}
use lib.Pow.{pow_pos}
use lib.Seq.{take_at}
use Rattle.algebra.specs.Words.{PrimeField}
use Rattle.foldable.specs.Every.{every}
use Rattle.job.specs.Limits.{max_block}
use Rattle.inversion.specs.Inversion.{gap_inverses, Diagonals}
use Rattle.base_undo.specs.Steps.{ColumnInput}

module _ (𝓕 : PrimeField) where
  -- the places of the diagonals
  pub diagonals : {d n : ℕ} {t t' b : List ℕ} {k : ℕ} → ColumnInput 𝓕 d n t t' b k → Diagonals 𝓕 n (2 ^ d - 1) t t'
  diagonals {d} {n} 𝓓 =
      let e = mul_comm n (2 ^ d - 1) in
      record { some = 𝓓.some; first = omega (arith, 𝓓.first); second = omega (arith, 𝓓.second); low = 𝓓.low; low' = 𝓓.low'; differ = 𝓓.apart }

  module _ (d n : ℕ) (t t' b work : List ℕ) (𝓓 : ColumnInput 𝓕 d n t t' b (length work)) (q : ℕ) (en : q ≡ 2 ^ d) where
    pub some : 1 ≤ q
    some = omega (arith, pow_pos d)

    pub room : q + q ≤ length work
    room = omega (arith, 𝓓.work)

    pub gathering : (0 < n) × (n ≤ max_block) × (n * length (take q work) < length b + n)
    gathering =
        let l : length (take q work) ≡ 2 ^ d = length-take q work ∙ omega (arith, room) in
        (𝓓.some, omega (arith, 𝓓.wide), omega (arith, 𝓓.places, ap (λ k. n * k) l))

    module _ (l : List ℕ) (ll : length l ≡ length (take q work)) where
      length_l : length l ≡ q
      length_l = ll ∙ length-take q work ∙ omega (arith, room)

      whole : length (l ++ drop q work) ≡ length work
      whole = length-append l (drop q work) ∙ omega (arith, length_l, length-drop q work, room)

      pub end_within : q + (q - 1) ≤ length (l ++ drop q work)
      end_within = omega (arith, whole, room)

      -- the column, and behind it the inverses
      pub prepared : l ≡ every 0 n 0 (length (take q work)) b → take (2 ^ d - 1) (drop (2 ^ d) work) ≡ gap_inverses 𝓕 n (2 ^ d - 1) t t'
          → take (q + (q - 1)) (l ++ drop q work) ≡ every 0 n 0 (2 ^ d) b ++ gap_inverses 𝓕 n (2 ^ d - 1) t t'
      prepared p s =
          let r = take (q - 1) (drop q work) in
          let rest = drop (q - 1) (drop q work) in
          let lr : length r ≡ q - 1 = length-take (q - 1) (drop q work) ∙ omega (arith, length-drop q work, room) in
          ap (λ v. take (q + (q - 1)) (l ++ v)) (sym (take-append-drop (q - 1) (drop q work)))
          ∙ ap (take (q + (q - 1))) (sym (append_assoc l r rest))
          ∙ take_at (l ++ r) rest (q + (q - 1)) (length-append l r ∙ omega (arith, length_l))
          ∙ ap₂ ◌++◌ (p ∙ ap (λ k. every 0 n 0 k b) (length-take q work ∙ omega (arith, room) ∙ en)) (ap (λ k. take (k - 1) (drop k work)) en ∙ s)
