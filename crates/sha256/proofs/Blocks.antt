-- The blocks of a padded message: those that lie in the message, and the last one or two. Assumes nothing.
use mathlib.Core.Path.{◌≡◌, refl, sym, ap, ap₂, ◌∙◌}
use mathlib.Core.List.{List, ◌∷◌, ◌++◌, append_assoc}
use Prim.Native.Nat.{ℕ, ◌+◌, ◌*◌, ◌-◌, ◌/◌, ◌%◌, ◌<◌, ◌≤◌}
use native.Mathlib.Numerals.{add-one}
use native.Mathlib.Omega.{arith}
use lib.ListN.{length, take, drop, replicate, length-append, length-drop, length-replicate, replicate-append-replicate}
use lib.Seq.{take-append-le, drop-append-le, take_at, take_all, take-take, drop-drop, length-take-le}
use Rattle.algebra.specs.Parts.{tail_part}
use Rattle.sha256_block.specs.Compression.{compressed}
use Rattle.sha256_block.specs.declared.State.{State}
use Rattle.sha256.specs.Padding.{all_bytes, zero_bits, length_words, padded}
use Rattle.sha256.specs.Hash.{block, hashed}
use Rattle.sha256.proofs.Places.{length_all}

-- one block more
pub hashed_turn : (l b : List ℕ) (i : ℕ) {s s' : State} → b ≡ block l i → s ≡ hashed l i → s' ≡ compressed s b → s' ≡ hashed l (i + 1)
unfolding hashed
hashed_turn l b i e p q = q ∙ ap₂ compressed p e ∙ ap (hashed l) (sym (add-one i))

abbrev zeros : ℕ → ℕ
zeros n = zero_bits (8 * n) / 8

abbrev nulls : ℕ → List ℕ
nulls n = replicate n 0

length_nulls : (n : ℕ) → length (nulls n) ≡ n
length_nulls n = length-replicate n _

module _ (m : List ℕ) where
  abbrev Z : List ℕ
  Z = 0x80 ∷ nulls (zeros (length m))

  abbrev L : List ℕ
  L = all_bytes (length_words (8 * length m))

  length_Z : length Z ≡ 1 + zeros (length m)
  length_Z = let e = length_nulls (zeros (length m)) in omega arith

  length_L : length L ≡ 8
  length_L = length_all (length_words (8 * length m))

  length_padded : length (padded m) ≡ length m + 1 + zeros (length m) + 8
  unfolding padded
  length_padded = length-append (m ++ Z) L ∙ let e = length-append m Z in let f = length_Z in let g = length_L in omega arith

  -- a block that lies in the message
  pub front_block : (i : ℕ) → 64 * i + 64 ≤ length m → take 64 (drop (64 * i) m) ≡ block (padded m) i
  unfolding padded
  front_block i h =
      let long : 64 ≤ length (drop (64 * i) m) = simp length-drop (omega arith) in
      sym
      (ap (λ l. take 64 (drop (64 * i) l)) (append_assoc m Z L) ∙ ap (take 64) (drop-append-le (64 * i) m (Z ++ L) (omega arith))
      ∙ take-append-le 64 (drop (64 * i) m) (Z ++ L) long)

  -- what follows the blocks that lie in the message
  abbrev at : ℕ
  at = length m - length m % 64

  behind : drop at (padded m) ≡ drop at m ++ Z ++ L
  unfolding padded
  behind =
      let e = length-append m Z in
      drop-append-le at (m ++ Z) L (omega arith) ∙ ap (λ l. l ++ L) (drop-append-le at m Z (omega arith))

  -- a buffer with what is left of the message, 0x80, zeros, and the length from place k on, where k is 56 or 120
  module _ (k : ℕ) (b c : List ℕ) (fits : length m % 64 + 1 + zeros (length m) ≡ k) (small : k ≤ 120)
      (began : b ≡ drop at m ++ (0x80 ∷ nulls (127 - length (drop at m)))) (ended : c ≡ take k b ++ L ++ drop (k + 8) b) where
    left : length (drop at m) ≡ length m % 64
    left = length-drop at m ∙ omega arith

    front : take k b ≡ drop at m ++ Z
    front =
        let z = zeros (length m) in
        let y = 127 - length (drop at m) - z in
        let l = left in
        let parts : 127 - length (drop at m) ≡ z + y = omega arith in
        let same : nulls (127 - length (drop at m)) ≡ nulls z ++ nulls y =
        ap nulls parts ∙ sym (replicate-append-replicate z y _) in
        let whole : b ≡ drop at m ++ Z ++ nulls y =
        began ∙ ap (λ r. drop at m ++ (0x80 ∷ r)) same ∙ sym (append_assoc (drop at m) Z (nulls y)) in
        let long : length (drop at m ++ Z) ≡ k = length-append (drop at m) Z ∙ let e = length_Z in omega arith in
        ap (take k) whole ∙ take_at (drop at m ++ Z) (nulls y) k long

    length_b : length b ≡ 128
    length_b =
        ap length began ∙ length-append (drop at m) (0x80 ∷ nulls (127 - length (drop at m)))
        ∙ let e = length_nulls (127 - length (drop at m)) in let l = left in omega arith

    length_c : length c ≡ 128
    length_c =
        let t = length-take-le k b (let e = length_b in omega arith) in
        let d = length-drop (k + 8) b in
        let e = length-append (take k b) L in
        let f = length_L in
        let g = length_b in
        ap length ended ∙ length-append (take k b ++ L) (drop (k + 8) b) ∙ omega arith

    ending : take (k + 8) c ≡ drop at (padded m)
    ending =
        let t = length-take-le k b (let e = length_b in omega arith) in
        let long : length (take k b ++ L) ≡ k + 8 = length-append (take k b) L ∙ let f = length_L in omega arith in
        ap (take (k + 8)) ended ∙ take_at (take k b ++ L) (drop (k + 8) b) (k + 8) long ∙ ap (λ l. l ++ L) front ∙ sym behind

    last_block : 56 ≤ k → take 64 c ≡ block (padded m) (length m / 64)
    last_block h =
        let place : at ≡ 64 * (length m / 64) = omega arith in
        sym (take-take 64 (k + 8) c (omega arith)) ∙ ap (take 64) ending ∙ ap (λ n. take 64 (drop n (padded m))) place

    next_block : k ≡ 120 → take 64 (drop 64 c) ≡ block (padded m) (length m / 64 + 1)
    next_block h =
        let place : at + 64 ≡ 64 * (length m / 64 + 1) = omega arith in
        let long : length c ≤ k + 8 = let e = length_c in omega arith in
        ap (λ l. take 64 (drop 64 l)) (sym (take_all (k + 8) c long) ∙ ending)
        ∙ ap (take 64) (drop-drop 64 at (padded m) ∙ ap (λ n. drop n (padded m)) place)

  -- how many blocks there are
  one_more : length m % 64 < 56 → length m / 64 + 1 ≡ length (padded m) / 64
  one_more h = let e = length_padded in omega arith

  two_more : 56 ≤ length m % 64 → length m / 64 + 1 + 1 ≡ length (padded m) / 64
  two_more h = let e = length_padded in omega arith

  -- the part from there to the end, as a program lends it
  abbrev part : List ℕ
  part = take (length m - at) (drop at m)

  module _ (b c : List ℕ) (began : b ≡ part ++ (0x80 ∷ nulls (127 - length part))) {s : State} (so_far : s ≡ hashed (padded m) (length m / 64)) where
    starts : b ≡ drop at m ++ (0x80 ∷ nulls (127 - length (drop at m)))
    starts = began ∙ ap (λ l. l ++ (0x80 ∷ nulls (127 - length l))) (tail_part at m)

    pub finish_one : length m % 64 < 56 → c ≡ take 56 b ++ L ++ drop 64 b → {r : State} → r ≡ compressed s (take 64 c) → r ≡ hashed (padded m) (length (padded m) / 64)
    finish_one h ended q =
        hashed_turn (padded m) (take 64 c) (length m / 64) (last_block 56 b c (omega arith) (omega arith) starts ended (omega arith)) so_far q
        ∙ ap (hashed (padded m)) (one_more h)

    pub finish_two : 56 ≤ length m % 64 → c ≡ take 120 b ++ L ++ drop 128 b → {t r : State} → t ≡ compressed s (take 64 c)
        → r ≡ compressed t (take 64 (drop 64 c)) → r ≡ hashed (padded m) (length (padded m) / 64)
    finish_two h ended p q =
        let first = hashed_turn (padded m) (take 64 c) (length m / 64) (last_block 120 b c (omega arith) (omega arith) starts ended (omega arith)) so_far p in
        hashed_turn (padded m) (take 64 (drop 64 c)) (length m / 64 + 1) (next_block 120 b c (omega arith) (omega arith) starts ended refl) first q
        ∙ ap (hashed (padded m)) (two_more h)
