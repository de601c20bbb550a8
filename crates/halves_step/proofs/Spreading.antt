-- The codeword of the right half of a message that stands in front of a slice, written behind the message. Assumes nothing.
use mathlib.Core.Path.{◌≡◌, refl, sym, ap, ◌∙◌}
use mathlib.Core.List.{List, ◌++◌}
use Prim.Native.Nat.{ℕ, suc, ◌+◌, ◌*◌, ◌-◌, ◌^◌, ◌<◌, ◌≤◌}
use native.Mathlib.Nat.{mul_comm, suc-mul, two-pow-succ}
use native.Mathlib.Numerals.{add-one}
use native.Mathlib.Omega.{arith}
use lib.ListN.{length, take, drop, get_or, length-take, length-drop}
use lib.Seq.{take_at, drop_at}
use borrow.Rule.Slice.PartMut.{put_mid}
use Rattle.algebra.specs.Filling.{Filled}
use Rattle.algebra.specs.Parts.{filled_part}
use Rattle.algebra.specs.Words.{PrimeField}
use Rattle.algebra.specs.WordLists.{Low, low_take, low_drop, elements, to_words}
use Rattle.foldable.specs.Lift.{lift}
use Rattle.job.specs.Limits.{block_size}
use Rattle.parameters.specs.Lent.{lent, codeword}
use Rattle.code.specs.Encoding.{EncodeInput}
use Rattle.code.specs.Steps.{times, SpreadInput, LiftInput}
use Rattle.code.specs.SpreadLaws.{spreaded, length_spreaded, spread_part}
use Rattle.halves_step.specs.Steps.{CodeLent, RightWritten}
use Rattle.halves_step.proofs.Encodes.{lifting, encoded}
use Rattle.halves_step.proofs.Places.{part_take}

module _ (𝓕 : PrimeField) where
  open 𝓕 use {modulus as P, field as F, words as W}
  open W use {el}

  -- the base blocks of a message, one by one
  module _ (m g old : List ℕ) (𝓢 : SpreadInput 𝓕 m g old) where
    pub length_base : length (spreaded 𝓕 m g) ≡ length old
    length_base = length_spreaded 𝓕 m g ∙ sym 𝓢.size

    pub next_place : (i x : ℕ) → x ≡ i * length g → x + length g ≡ (i + 1) * length g
    next_place i x e = omega (arith, suc-mul i (length g), ap (λ k. k * length g) (add-one i), e)

    pub spread_turn : (i x : ℕ) (out r : List ℕ) → i < length m → x ≡ i * length g → x + length g ≤ length old → Filled x (spreaded 𝓕 m g) old out
        → r ≡ to_words 𝓕 (times 𝓕 (el (get_or m i 0)) (elements 𝓕 g)) → Filled (x + length g) (spreaded 𝓕 m g) old (put_mid x (x + length g - x) out r)
    spread_turn i x out r h e within p made =
        filled_part (x + length g) 0 r p (omega arith) within length_base (spread_part 𝓕 m g i x (x + length g) h e refl r made)

  -- the right half of the message that stands in front, as base blocks and lifted
  module _ (i b : ℕ) (g t t' w : List ℕ) (𝓒 : CodeLent 𝓕 i b g t t' w) {n : ℕ} (n-is : n ≡ 2 ^ i) {message : List ℕ} (front : message ≡ take b w) where
    abbrev right : List ℕ
    right = take (n + n - n) (drop n message)

    right_is : right ≡ take (2 ^ i) (drop (2 ^ i) w)
    right_is =
        let e : n + n - n ≡ n = omega arith in
        ap (λ k. take k (drop n message)) e
        ∙ ap (λ v. take n (drop n v)) front
        ∙ part_take n n b w (omega (arith, 𝓒.behind, two-pow-succ i))
        ∙ ap (λ k. take k (drop k w)) n-is

    low_right : Low P right
    low_right =
        rw (right_is, sym (part_take (2 ^ i) (2 ^ i) (2 ^ suc i) w (omega (arith, two-pow-succ i)))) (low_take (2 ^ i) (low_drop (2 ^ i) 𝓒.message))

    length_right : length right ≡ 2 ^ i
    length_right = ap length right_is ∙ length-take (2 ^ i) (drop (2 ^ i) w) ∙ omega (arith, length-drop (2 ^ i) w, 𝓒.within, 𝓒.behind, two-pow-succ i)

    module _ (base : List ℕ) (base-is : base ≡ spreaded 𝓕 right g) where
      length_base_blocks : length base ≡ block_size (length g) i
      length_base_blocks = ap length base-is ∙ length_spreaded 𝓕 right g ∙ ap (λ k. k * length g) length_right ∙ mul_comm (2 ^ i) (length g)

      encodes : EncodeInput 𝓕 i g t t' right (length base)
      encodes = record { coding = 𝓒.coding; message = length_right; words = low_right; size = length_base_blocks }

      pub lift_lent : LiftInput 𝓕 i g t t' base
      lift_lent = lifting 𝓕 i g t t' right base encodes base base-is

      pub written : (r rest : List ℕ) → length r ≡ length base → r ≡ to_words 𝓕 (lift F (lent 𝓕 g t t') i (elements 𝓕 base)) → RightWritten 𝓕 i b g t t' w (message ++ (r ++ rest))
      written r rest same q =
          let code : r ≡ codeword 𝓕 i g t t' (take (2 ^ i) (drop (2 ^ i) w)) = encoded 𝓕 i g t t' right base encodes base r base-is q ∙ ap (codeword 𝓕 i g t t') right_is in
          let size : length r ≡ block_size (length g) i = same ∙ length_base_blocks in
          let long : length message ≡ b = ap length front ∙ length-take b w ∙ omega (arith, 𝓒.within) in
          record {
            kept = take_at message (r ++ rest) b long ∙ front;
            right = ap (take (block_size (length g) i)) (drop_at message (r ++ rest) b long) ∙ take_at r rest (block_size (length g) i) size ∙ code;
          }
