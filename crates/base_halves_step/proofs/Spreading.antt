-- The codeword of the right half of a message that stands in front of a slice, written behind the message. Assumes nothing.
use mathlib.Core.Path.{◌≡◌, refl, sym, ap, ap₂, ◌∙◌}
use mathlib.Core.List.{List, ◌++◌}
use Prim.Native.Nat.{ℕ, suc, ◌+◌, ◌*◌, ◌-◌, ◌/◌, ◌^◌, ◌<◌, ◌≤◌}
use native.Mathlib.Nat.{mul_comm, mul-zero, mul-suc, mul-div_cancel, mul-le-mul_left}
use native.Mathlib.Numerals.{add-one}
use native.Mathlib.Omega.{arith}
use lib.ListN.{length, take, drop, length-take, length-drop}
use lib.Seq.{take_all, take-add, drop-drop}
use borrow.Rule.Slice.PartMut.{put_mid}
use Rattle.algebra.specs.Words.{PrimeField}
use Rattle.algebra.specs.WordLists.{Low, low_take, low_drop, elements, to_words}
use Rattle.foldable.specs.Encode.{double}
use Rattle.foldable.specs.Lift.{lift}
use Rattle.job.specs.Limits.{block_size}
use Rattle.parameters.specs.Lent.{lent}
use Rattle.code.specs.Steps.{LiftInput}
use Rattle.job.specs.SizeLaws.{size_least}
use Rattle.base_block.specs.Blocks.{block_of}
use Rattle.base_spread.specs.Steps.{blocks_of, SpreadLent, EncodeLent}
use Rattle.base_spread.proofs.Spreading.{Reached, length_blocks, block_part}
use Rattle.base_spread.proofs.Encoding.{first_length, lifting, encoded}
use Rattle.halves_step.proofs.Places.{part_take, part_front, put_front, put_length, put_part, put_next}
use Rattle.base_halves_step.specs.Steps.{right_half, BehindLent, RightLent, RightSpread, CodeLent, RightWritten}

-- turn j of q, whose parts have c words
pub turn_next : (c j : ℕ) → c * (j + 1) ≡ c * j + c
turn_next c j = ap (λ m. c * m) (add-one j) ∙ mul-suc c j ∙ omega arith

pub turn_within : (c j q : ℕ) → j < q → c * j + c ≤ c * q
turn_within c j q h = omega (arith, mul-le-mul_left {m = suc j} {n = q} c h, mul-suc c j)

module _ (𝓕 : PrimeField) where
  open 𝓕 use {modulus as P, field as F}

  -- before turn j
  pub record SpreadTo (k n q b : ℕ) (g w : List ℕ) (j : ℕ) (out : List ℕ) : Type 0 where
    pub long : length out ≡ length w
    pub front : take b out ≡ take b w
    pub base : take (n * j) (drop b out) ≡ take (n * j) (blocks_of 𝓕 k n g (right_half (k * q) w))

  module _ (k n q b : ℕ) (g w : List ℕ) (𝓡 : RightLent 𝓕 k n q b g w) where
    abbrev h : ℕ
    h = k * q

    abbrev right : List ℕ
    right = right_half (k * q) w

    pub length_right : length right ≡ k * q
    length_right = length-take h (drop h w) ∙ omega (arith, length-drop h w, 𝓡.behind, 𝓡.within)

    low_right : Low P right
    low_right = rw (sym (part_take h h (h + h) w (omega arith))) (low_take h (low_drop h 𝓡.message))

    count : length right / k ≡ q
    count = ap (λ c. c / k) (length_right ∙ mul_comm k q) ∙ mul-div_cancel q (size_least 𝓡.lent.size)

    abbrev room : List ℕ
    room = take (n * q) (drop b w)

    spreading : SpreadLent 𝓕 k n g right room
    spreading =
        record {
          lent = 𝓡.lent;
          low = low_right;
          whole = length_right ∙ ap (λ c. k * c) (sym count);
          size = length-take (n * q) (drop b w) ∙ omega (arith, length-drop b w, 𝓡.within) ∙ ap (λ c. n * c) (sym count);
        }

    abbrev blocks : List ℕ
    blocks = blocks_of 𝓕 k n g right

    pub length_base : length blocks ≡ n * q
    length_base = length_blocks 𝓕 k n g right room spreading ∙ ap (λ c. n * c) count

    pub spread_none : SpreadTo k n q b g w 0 w
    spread_none = record { long = refl; front = refl; base = rw (mul-zero n) refl }

    module _ (j i x : ℕ) (out : List ℕ) (less : j < q) (at_i : i ≡ k * q + k * j) (at_x : x ≡ b + n * j) (p : SpreadTo k n q b g w j out) where
      pub in_message : i + k ≤ b
      in_message = omega (arith, turn_within k j q less, 𝓡.behind)

      pub in_work : x + n ≤ length w
      in_work = omega (arith, turn_within n j q less, 𝓡.within)

      -- the words that are read are the message's
      words_are : take k (drop i out) ≡ take k (drop (k * j) right)
      words_are =
          part_front b out w p.front i k in_message
          ∙ ap (λ m. take k (drop m w)) at_i
          ∙ sym (part_take (k * j) k h (drop h w) (turn_within k j q less) ∙ ap (take k) (drop-drop (k * j) h w))

      pub behind_lent : BehindLent 𝓕 k n i x g out
      behind_lent =
          record {
            lent = 𝓡.lent;
            low = rw words_are (low_take k (low_drop (k * j) low_right));
            message = omega (arith, in_message);
            block = omega (arith, in_work, p.long);
          }

      reached : Reached k n (length right / k) (k * j) (n * j)
      reached = record { turn = j; most = omega (arith, count); in_message = refl; in_blocks = refl }

      pub spread_turn : (r : List ℕ) → r ≡ put_mid x n out (block_of 𝓕 n g (take k (drop i out))) → SpreadTo k n q b g w (j + 1) r
      spread_turn r e =
          let y = n * j in
          let B = block_of 𝓕 n g (take k (drop i out)) in
          let a : k ≡ k * j + k - k * j = omega arith in
          let c : y + n - y ≡ n = omega arith in
          let within : k * j < length right = omega (arith, length_right, turn_within k j q less, size_least 𝓡.lent.size) in
          let part : B ≡ take n (drop y blocks) =
          block_part 𝓕 k n g right room spreading reached within
          (ap (block_of 𝓕 n g) (words_are ∙ ap (λ m. take m (drop (k * j) right)) a)) ∙ ap (λ m. take m (drop y blocks)) c in
          let sized : length B ≡ n = ap length part ∙ length-take n (drop y blocks) ∙ omega (arith, length-drop y blocks, length_base, turn_within n j q less) in
          let room-is : x + n ≤ length out = omega (arith, in_work, p.long) in
          let more = turn_next n j in
          rw e
          (record {
            long = put_length x n out B (omega arith) sized room-is ∙ p.long;
            front = put_front x n out B (omega arith) sized b (omega arith) ∙ p.front;
            base =
                ap (λ m. take m (drop b (put_mid x n out B))) more
                ∙ put_next x n out B (omega arith) sized b y at_x
                ∙ ap₂ ◌++◌ p.base part
                ∙ sym (take-add y n blocks)
                ∙ ap (λ m. take m blocks) (sym more);
          })

    pub spread_end : (j : ℕ) (out : List ℕ) → j ≡ q → SpreadTo k n q b g w j out → RightSpread 𝓕 k n q b g w out
    spread_end j out e p =
        record {
          kept = p.front;
          base =
              ap (λ m. take (n * m) (drop b out)) (sym e) ∙ p.base ∙ ap (λ m. take (n * m) blocks) e
              ∙ take_all (n * q) blocks (omega (arith, length_base));
        }

  -- then lifted there
  module _ (i k n b : ℕ) (g t t' w : List ℕ) (𝓒 : CodeLent 𝓕 i k n b g t t' w) where
    right_lent_at : RightLent 𝓕 k n (2 ^ i) b g w
    right_lent_at = record { lent = 𝓒.coding.lent; message = rw (double k i) at 𝓒.message; behind = omega (arith, 𝓒.behind, double k i); within = 𝓒.within }

    module _ (q : ℕ) (q-is : q ≡ 2 ^ i) where
      pub right_lent : RightLent 𝓕 k n q b g w
      right_lent = rw q-is right_lent_at

      abbrev half : List ℕ
      half = right_half (k * 2 ^ i) w

      module _ (e : ℕ) (out : List ℕ) (e-is : e ≡ b + n * q) (l : length out ≡ length w) (p : RightSpread 𝓕 k n q b g w out) where
        long : e - b ≡ block_size n i
        long = let z : e - b ≡ n * q = omega arith in z ∙ ap (λ j. n * j) q-is

        pub ends : (b ≤ e) × (e ≤ length out)
        ends = (omega arith, omega (arith, 𝓒.within, long))

        abbrev part : List ℕ
        part = take (e - b) (drop b out)

        length_part : length part ≡ block_size n i
        length_part = length-take (e - b) (drop b out) ∙ omega (arith, length-drop b out, long, ends)

        part_is : part ≡ blocks_of 𝓕 k n g half
        part_is = ap (λ m. take m (drop b out)) (long ∙ ap (λ m. n * m) (sym q-is)) ∙ p.base ∙ ap (λ m. blocks_of 𝓕 k n g (right_half (k * m) w)) q-is

        encodes : EncodeLent 𝓕 i k n g t t' half part
        encodes =
            record {
              coding = 𝓒.coding;
              message = length_right k n (2 ^ i) b g w right_lent_at;
              words = low_right k n (2 ^ i) b g w right_lent_at;
              size = length_part;
            }

        pub row_length : length (take n g) ≡ n
        row_length = first_length 𝓕 i k n g t t' half part encodes

        pub lift_lent : LiftInput 𝓕 i (take n g) t t' part
        lift_lent = lifting 𝓕 i k n g t t' half part encodes part part_is

        pub written : (r : List ℕ) → length r ≡ length part → r ≡ to_words 𝓕 (lift F (lent 𝓕 (take n g) t t') i (elements 𝓕 part)) → RightWritten 𝓕 i k n b g t t' w (put_mid b (e - b) out r)
        written r m s =
            let sized : length r ≡ e - b = m ∙ length_part ∙ sym long in
            record {
              kept = put_front b (e - b) out r (omega (arith, ends)) sized b (omega arith) ∙ p.kept;
              right = ap (λ j. take j (drop b (put_mid b (e - b) out r))) (sym long) ∙ put_part b (e - b) out r (omega (arith, ends)) sized
                  ∙ encoded 𝓕 i k n g t t' half part encodes part r part_is s;
            }
