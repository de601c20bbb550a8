-- Words that stand apart, brought to the front. Assumes nothing.
use mathlib.Core.Path.{◌≡◌, sym, ap, ◌∙◌}
use mathlib.Core.Logic.{⊎_elim}
use mathlib.Core.List.{List, ◌++◌}
use Prim.Native.Nat.{ℕ, ◌+◌, ◌*◌, ◌-◌, ◌<◌, ◌≤◌}
use native.Mathlib.Nat.{mul-le-mul_left, mul-one}
use native.Mathlib.Omega.{arith}
use lib.ListN.{length, drop, get_or, set, length-append, length-drop, get_or-append}
use lib.Seq.{drop_at, get_or-drop, ext_get_or}
use Rattle.algebra.specs.Filling.{Filled, filled_turn, filled_old, filled_new, filled_length}
use Rattle.algebra.specs.Lists.{row, length_row, get_or_row}
use Rattle.algebra.specs.Order.{lt_or_ge}
use Rattle.inversion.specs.Strides.{stride_within}
use Rattle.base_undo.specs.Steps.{DrawLent}

-- what is written up to k is all that is new
pub filled_over : {A : Type 0} (d : A) {k : ℕ} {new old out : List A} → length new ≡ length old → drop k new ≡ drop k old → Filled k new old out → out ≡ new
filled_over {A} d {k} {new} {old} {out} e f p = ext_get_or d out new (filled_length p ∙ sym e) (λ j h. ⊎_elim (λ l. filled_new p j d l e) (behind j) (lt_or_ge j k))
  where
    behind : (j : ℕ) → k ≤ j → get_or out j d ≡ get_or new j d
    behind j l =
        let n : j ≡ k + (j - k) = omega arith in
        let there : (v : List A) → get_or v j d ≡ get_or (drop k v) (j - k) d = λ v. ap (λ i. get_or v i d) n ∙ sym (get_or-drop k v (j - k) d) in
        filled_old p j d l ∙ there old ∙ sym (ap (λ v. get_or v (j - k) d) f) ∙ sym (there new)

module _ (k r q : ℕ) (old : List ℕ) (𝓓 : DrawLent k r q old) where
  abbrev drawn : List ℕ
  drawn = row k (λ b. get_or old (r + b * q) 0)

  abbrev pub new : List ℕ
  new = drawn ++ drop k old

  module _ (b : ℕ) (h : b < k) where
    pub read_within : r + b * q < length old
    read_within = omega (arith, 𝓓.within, stride_within b q k h)

    pub read_behind : b ≤ r + b * q
    read_behind = omega (arith, mul-le-mul_left {m = 1} {n = q} b 𝓓.apart, mul-one b)

    pub write_within : b < length old
    write_within = omega (arith, read_within, read_behind)

  few : 0 < k → k ≤ length old
  few h = omega (arith, write_within (k - 1) (omega arith))

  pub length_new : k ≤ length old → length new ≡ length old
  length_new h = length-append drawn (drop k old) ∙ omega (arith, length_row k (λ b. get_or old (r + b * q) 0), length-drop k old)

  pub all_within : k ≤ length old
  all_within = ⊎_elim few (λ z. omega arith) (lt_or_ge 0 k)

  pub drawn_turn : {out : List ℕ} {b p v : ℕ} → b < k → p ≡ r + b * q → v ≡ get_or out p 0 → Filled b new old out → Filled (b + 1) new old (set out b v)
  drawn_turn {out} {b} {p} {v} h e f 𝓕 =
      filled_turn 0 (write_within b h) (length_new all_within) 𝓕
      (f ∙ ap (λ i. get_or out i 0) e ∙ filled_old 𝓕 (r + b * q) 0 (read_behind b h)
      ∙ sym (get_or-append drawn (drop k old) 0 b (omega (arith, length_row k (λ b. get_or old (r + b * q) 0))) ∙ get_or_row k (λ b. get_or old (r + b * q) 0) b 0 h))

  pub drawn_end : {out : List ℕ} {b : ℕ} → b ≤ k → k ≤ b → Filled b new old out → out ≡ new
  drawn_end {out} {b} h l 𝓕 = let e : b ≡ k = omega arith in filled_over 0 (length_new all_within) (drop_at drawn (drop k old) k (length_row k _)) (rw e at 𝓕)
