-- A step from a level to the one below, with what stands where in the work buffer. Assumes nothing.
use mathlib.Core.Path.{◌≡◌, refl, sym, ap, ap₂, ◌∙◌}
use mathlib.Core.Bool.{Bool, ◌&&◌}
use mathlib.Core.List.{List, ◌++◌}
use Prim.Native.Nat.{ℕ, suc, ◌+◌, ◌*◌, ◌-◌, ◌^◌, ◌≤◌}
use native.Mathlib.Nat.{mul-le-mul, mul-le-mul_left}
use native.Mathlib.Omega.{arith}
use lib.ListN.{length, take, drop, length-take, length-drop, take-append-drop}
use lib.Pow.{pow_pos}
use lib.Seq.{take-add, take-take, drop-drop, take_all, length-take-le}
use borrow.Rule.Slice.PartMut.{put_mid}
use Rattle.algebra.specs.WordLists.{Low, low_take, low_drop, low_append, low_words}
use Rattle.algebra.specs.Words.{PrimeField}
use Rattle.algebra.specs.Tests.{all_same}
use Rattle.foldable.specs.Encode.{double}
use Rattle.job.specs.Limits.{max_depth, max_message, block_size, diagonals_size}
use Rattle.job.specs.LimitLaws.{power_most}
use Rattle.undo.specs.Steps.{longest_base}
use Rattle.parameters.specs.Lent.{diagonal}
use Rattle.parameters.specs.LentLaws.{length_diagonal, level_end}
use Rattle.base_spread.specs.LentRows.{codeword_rows, RowCoding}
use Rattle.halves_step.specs.Steps.{peeled, raised, LentPeel, FrontPeel, Peeled}
use Rattle.base_halves_step.specs.Steps.{right_half, CodeLent, RightWritten}
use Rattle.base_halves.specs.Steps.{LevelAt, same_lent, same_rest, TopLent, CheckLent, Stepped}
use Rattle.halves_step.proofs.Places.{part_take, part_front, take_front, put_front, put_part}
use Rattle.base_halves.proofs.Halving.{rows_below, same_step, peeled_low}

-- the place of a level, and that its numbers are small
pub record PlaceAt (i c n : ℕ) : Type 0 where
  pub some : 1 ≤ n
  pub most : c * n ≤ longest_base * max_message
  pub less : c * (n - 1) ≤ c * n
  pub place : LevelAt i c (c * n) (c * (n - 1)) (c * (n - 1) + c * n)

pub level_at : (i c n : ℕ) → i ≤ max_depth → c ≤ longest_base → n ≡ 2 ^ i → PlaceAt i c n
level_at i c n d r e =
    let at_most : n ≤ max_message = rw e (power_most i d) in
    record {
      some = rw e (pow_pos i);
      most = mul-le-mul r at_most;
      less = mul-le-mul_left c (omega arith);
      place = record { size_is = ap (λ k. c * k) e; off_is = ap (λ k. c * (k - 1)) e; end_is = refl };
    }

module _ (𝓕 : PrimeField) where
  open 𝓕 use {modulus as P}

  peeled_same : (t s t' s' u u₂ v v₂ r r₂ x x₂ : List ℕ) (ok : Bool) → t ≡ s → t' ≡ s' → u ≡ u₂ → v ≡ v₂ → r ≡ r₂ → x ≡ x₂ → Peeled 𝓕 t t' u v r ok x → Peeled 𝓕 s s' u₂ v₂ r₂ ok x₂
  peeled_same t s t' s' u u₂ v v₂ r r₂ x x₂ ok a b c d e f p =
      record {
        answer = p.answer ∙ (λ j. all_same (raised 𝓕 (peeled 𝓕 (c j) (a j) (e j)) (b j) (e j)) (d j));
        left = sym f ∙ p.left ∙ (λ j. peeled 𝓕 (c j) (a j) (e j));
      }

  -- the halves of a message, and the place of a level's diagonals
  module _ (i k n : ℕ) (g t t' w : List ℕ) (𝓒 : RowCoding 𝓕 (suc i) k n g t t') (long : k * 2 ^ suc i ≤ length w) where
    abbrev left : List ℕ
    left = take (k * 2 ^ i) w

    abbrev right : List ℕ
    right = right_half (k * 2 ^ i) w

    halves : take (k * 2 ^ suc i) w ≡ left ++ right
    halves = ap (λ len. take len w) (double k i) ∙ take-add (k * 2 ^ i) (k * 2 ^ i) w

    length_left : length left ≡ k * 2 ^ i
    length_left = length-take-le (k * 2 ^ i) w (omega (arith, double k i))

    module _ (len off end : ℕ) (𝓟 : LevelAt i n len off end) where
      pub end_first : end ≤ length t
      end_first = omega (arith, 𝓟.end_is, 𝓟.off_is, 𝓟.size_is, level_end n i, 𝓒.first)

      pub end_second : end ≤ length t'
      end_second = omega (arith, 𝓟.end_is, 𝓟.off_is, 𝓟.size_is, level_end n i, 𝓒.second)

      abbrev across : List ℕ → List ℕ
      across s = take (end - off) (drop off s)

      across_is : (s : List ℕ) → across s ≡ diagonal n s i
      unfolding diagonal
      across_is s = ap₂ (λ a z. take a (drop z s)) (let a = 𝓟.end_is in let z : end - off ≡ len = omega arith in z ∙ 𝓟.size_is) 𝓟.off_is

      length_across : (s : List ℕ) → diagonals_size n (suc i) ≤ length s → length (across s) ≡ len
      length_across s h = ap length (across_is s) ∙ length_diagonal n (suc i) i s (omega arith) h ∙ sym 𝓟.size_is

      low_across : (s : List ℕ) → Low P s → Low P (across s)
      low_across s l = low_take (end - off) (low_drop off l)

      -- the right half peeled off u and v: what is left stands from m on
      step_of : (m : ℕ) (u v x out : List ℕ) (ok : Bool) → k * 2 ^ suc i ≤ m → length u ≡ len → length v ≡ len → Low P u → Low P v
          → Peeled 𝓕 (diagonal n t i) (diagonal n t' i) u v (codeword_rows 𝓕 i k n g t t' right) ok x
          → take m out ≡ take m w → take len (drop m out) ≡ x
          → Stepped 𝓕 i k n m g t t' (same_lent 𝓕 (suc i) k n g t t' (u ++ v) w) w ok out
      step_of m u v x out ok h lu lv lowu lowv 𝓠 kept stands =
          let lu' = lu ∙ 𝓟.size_is in
          let lv' = lv ∙ 𝓟.size_is in
          let rest : take (block_size n i) (drop m out) ≡ peeled 𝓕 u (diagonal n t i) (codeword_rows 𝓕 i k n g t t' right) = ap (λ z. take z (drop m out)) (sym 𝓟.size_is) ∙ stands ∙ 𝓠.left in
          let front : left ≡ take (k * 2 ^ i) out = sym (take_front m out w kept (k * 2 ^ i) (omega (arith, double k i))) in
          record {
            answer =
                ap (λ a. all_same (codeword_rows 𝓕 (suc i) k n g t t' a) (u ++ v)) halves
                ∙ same_step 𝓕 i k n g t t' 𝓒 left right u v length_left lu' lv' lowu lowv
                ∙ ap₂ ◌&&◌ (sym 𝓠.answer) (ap₂ (λ a y. all_same (codeword_rows 𝓕 i k n g t t' a) y) front (sym rest));
            kept = kept;
            block = rw rest (peeled_low 𝓕 u (diagonal n t i) (codeword_rows 𝓕 i k n g t t' right));
          }

  -- from the block that begins at m
  module _ (i k n m : ℕ) (g t t' w : List ℕ) (𝓒 : CheckLent 𝓕 (suc i) k n m g t t' w) (len off end : ℕ) (𝓟 : LevelAt i n len off end) where
    double_is : block_size n (suc i) ≡ len + len
    double_is = double n i ∙ ap₂ ◌+◌ (sym 𝓟.size_is) (sym 𝓟.size_is)

    -- there is room
    pub room : m + len + len + len ≤ length w
    room = omega (arith, 𝓒.within, double_is)

    long : k * 2 ^ suc i ≤ length w
    long = omega (arith, room, 𝓒.behind)

    pub step_lent : CodeLent 𝓕 i k n (m + len + len) g t t' w
    step_lent =
        record {
          coding = rows_below 𝓕 i 𝓒.coding;
          depth = omega (arith, 𝓒.depth);
          message = 𝓒.message;
          behind = omega (arith, 𝓒.behind, double k i);
          within = omega (arith, room, 𝓟.size_is);
        }

    pub step_first : end ≤ length t
    step_first = end_first i k n g t t' w 𝓒.coding long len off end 𝓟

    pub step_second : end ≤ length t'
    step_second = end_second i k n g t t' w 𝓒.coding long len off end 𝓟

    abbrev u : List ℕ
    u = take len (drop m w)

    abbrev v : List ℕ
    v = take len (drop (m + len) w)

    block_is : take (block_size n (suc i)) (drop m w) ≡ u ++ v
    block_is = ap (λ z. take z (drop m w)) double_is ∙ take-add len len (drop m w) ∙ ap (λ y. u ++ take len y) (drop-drop len m w)

    module _ (e : ℕ) (w₁ : List ℕ) (e-is : e ≡ m + len + len + len) (lw : length w₁ ≡ length w) (𝓦 : RightWritten 𝓕 i k n (m + len + len) g t t' w w₁) where
      abbrev part : List ℕ
      part = take (e - m) (drop m w₁)

      length_part : length part ≡ len + len + len
      length_part = length-take (e - m) (drop m w₁) ∙ omega (arith, length-drop m w₁, room)

      -- the block and the codeword behind it
      block_part : take (len + len) part ≡ take (len + len) (drop m w)
      block_part = take-take (len + len) (e - m) (drop m w₁) (omega arith) ∙ part_front (m + len + len) w₁ w 𝓦.kept m (len + len) (omega arith)

      third_part : drop (len + len) part ≡ codeword_rows 𝓕 i k n g t t' (right_half (k * 2 ^ i) w)
      third_part =
          let z : m + (len + len) ≡ m + len + len = omega arith in
          sym (take_all len (drop (len + len) part) (omega (arith, length-drop (len + len) part, length_part)))
          ∙ part_take (len + len) len (e - m) (drop m w₁) (omega arith)
          ∙ ap (take len) (drop-drop (len + len) m w₁)
          ∙ ap₂ (λ a b. take a (drop b w₁)) 𝓟.size_is z
          ∙ 𝓦.right

      first_part : take len part ≡ u
      first_part = sym (take-take len (len + len) part (omega arith)) ∙ ap (take len) block_part ∙ take-take len (len + len) (drop m w) (omega arith)

      second_part : take len (drop len part) ≡ v
      second_part =
          sym (part_take len len (len + len) part (omega arith)) ∙ ap (λ y. take len (drop len y)) block_part ∙ part_take len len (len + len) (drop m w) (omega arith)
          ∙ ap (take len) (drop-drop len m w)

      low_block : Low P (take (len + len) (drop m w))
      low_block = rw double_is at 𝓒.block

      low_part : Low P part
      low_part =
          rw (sym (take-append-drop (len + len) part))
          (low_append {v = take (len + len) part} {w = drop (len + len) part} (rw block_part low_block) (rw third_part (low_words 𝓕 _)))

      abbrev T : List ℕ
      T = take (end - off) (drop off t)

      abbrev T' : List ℕ
      T' = take (end - off) (drop off t')

      length_T : length T ≡ len
      length_T = length_across i k n g t t' w 𝓒.coding long len off end 𝓟 t 𝓒.coding.first

      pub front_peel : FrontPeel 𝓕 T T' part
      front_peel =
          record {
            second = length_across i k n g t t' w 𝓒.coding long len off end 𝓟 t' 𝓒.coding.second ∙ sym length_T;
            size = omega (arith, length_part, length_T);
            low = low_across i k n g t t' w 𝓒.coding long len off end 𝓟 t 𝓒.coding.low;
            low' = low_across i k n g t t' w 𝓒.coding long len off end 𝓟 t' 𝓒.coding.low';
            words = low_part;
          }

      pub stepped : (ok : Bool) (out : List ℕ) → length out ≡ length part
          → Peeled 𝓕 T T' (take (length T) part) (take (length T) (drop (length T) part)) (drop (length T + length T) part) ok (take (length T) out)
          → Stepped 𝓕 i k n m g t t' (same_rest 𝓕 (suc i) k n m g t t' w) w ok (put_mid m (e - m) w₁ out)
      stepped ok out lo 𝓠 =
          let z = length_T in
          let sized : length out ≡ e - m = lo ∙ length_part ∙ omega arith in
          let across-of = across_is i k n g t t' w 𝓒.coding long len off end 𝓟 in
          let 𝓠' = peeled_same T (diagonal n t i) T' (diagonal n t' i) (take (length T) part) u (take (length T) (drop (length T) part)) v (drop (length T + length T) part) (codeword_rows 𝓕 i k n g t t' (right_half (k * 2 ^ i) w)) (take (length T) out) (take len out) ok
          (across-of t) (across-of t') (ap (λ j. take j part) z ∙ first_part) (ap (λ j. take j (drop j part)) z ∙ second_part) (ap (λ j. drop (j + j) part) z ∙ third_part) (ap (λ j. take j out) z) 𝓠 in
          let low-u : Low P u = rw first_part at (low_take len low_part) in
          let low-v : Low P v = rw second_part at (low_take len (low_drop len low_part)) in
          let s = step_of i k n g t t' w 𝓒.coding long len off end 𝓟 m u v (take len out) (put_mid m (e - m) w₁ out) ok 𝓒.behind
          (sym (ap length first_part) ∙ length-take len part ∙ omega (arith, length_part)) (sym (ap length second_part) ∙ length-take len (drop len part) ∙ omega (arith, length-drop len part, length_part)) low-u low-v 𝓠'
          (put_front m (e - m) w₁ out (omega (arith, room)) sized m (omega arith) ∙ take_front (m + len + len) w₁ w 𝓦.kept m (omega arith))
          (sym (take-take len (e - m) (drop m (put_mid m (e - m) w₁ out)) (omega arith)) ∙ ap (take len) (put_part m (e - m) w₁ out (omega (arith, room)) sized)) in
          record { answer = ap (λ y. same_lent 𝓕 (suc i) k n g t t' y w) block_is ∙ s.answer; kept = s.kept; block = s.block }

  -- from the lent block
  module _ (i k n m : ℕ) (g t t' b w : List ℕ) (𝓣 : TopLent 𝓕 i k n m g t t' b w) (len off end : ℕ) (𝓟 : LevelAt i n len off end) where
    pub top_room : m + len ≤ length w
    top_room = omega (arith, 𝓣.within, 𝓟.size_is)

    top_long : k * 2 ^ suc i ≤ length w
    top_long = omega (arith, top_room, 𝓣.behind)

    pub top_lent : CodeLent 𝓕 i k n m g t t' w
    top_lent =
        record {
          coding = rows_below 𝓕 i 𝓣.coding;
          depth = 𝓣.depth;
          message = 𝓣.message;
          behind = 𝓣.behind;
          within = 𝓣.within;
        }

    pub top_first : end ≤ length t
    top_first = end_first i k n g t t' w 𝓣.coding top_long len off end 𝓟

    pub top_second : end ≤ length t'
    top_second = end_second i k n g t t' w 𝓣.coding top_long len off end 𝓟

    length_block : length b ≡ len + len
    length_block = 𝓣.size ∙ double n i ∙ ap₂ ◌+◌ (sym 𝓟.size_is) (sym 𝓟.size_is)

    module _ (e : ℕ) (w₁ : List ℕ) (e-is : e ≡ m + len) (lw : length w₁ ≡ length w) (𝓦 : RightWritten 𝓕 i k n m g t t' w w₁) where
      abbrev rest : List ℕ
      rest = take (e - m) (drop m w₁)

      rest_is : rest ≡ codeword_rows 𝓕 i k n g t t' (right_half (k * 2 ^ i) w)
      rest_is = let z : e - m ≡ len = omega arith in ap (λ j. take j (drop m w₁)) (z ∙ 𝓟.size_is) ∙ 𝓦.right

      length_rest : length rest ≡ len
      length_rest = length-take (e - m) (drop m w₁) ∙ omega (arith, length-drop m w₁, top_room)

      abbrev S : List ℕ
      S = take (end - off) (drop off t)

      abbrev S' : List ℕ
      S' = take (end - off) (drop off t')

      length_S : length S ≡ len
      length_S = length_across i k n g t t' w 𝓣.coding top_long len off end 𝓟 t 𝓣.coding.first

      pub lent_peel : LentPeel 𝓕 S S' b rest
      lent_peel =
          record {
            second = length_across i k n g t t' w 𝓣.coding top_long len off end 𝓟 t' 𝓣.coding.second ∙ sym length_S;
            size = omega (arith, length_block, length_S);
            right = length_rest ∙ sym length_S;
            low = low_across i k n g t t' w 𝓣.coding top_long len off end 𝓟 t 𝓣.coding.low;
            low' = low_across i k n g t t' w 𝓣.coding top_long len off end 𝓟 t' 𝓣.coding.low';
            block = 𝓣.block;
            words = rw rest_is (low_words 𝓕 _);
          }

      pub top_stepped : (ok : Bool) (out : List ℕ) → length out ≡ length rest → Peeled 𝓕 S S' (take (length S) b) (drop (length S) b) rest ok out
          → Stepped 𝓕 i k n m g t t' (same_lent 𝓕 (suc i) k n g t t' b w) w ok (put_mid m (e - m) w₁ out)
      top_stepped ok out lo 𝓠 =
          let z = length_S in
          let j : e - m ≡ len = omega arith in
          let sized : length out ≡ e - m = lo ∙ length_rest ∙ sym j in
          let across-of = across_is i k n g t t' w 𝓣.coding top_long len off end 𝓟 in
          let 𝓠' = peeled_same S (diagonal n t i) S' (diagonal n t' i) (take (length S) b) (take len b) (drop (length S) b) (drop len b) rest (codeword_rows 𝓕 i k n g t t' (right_half (k * 2 ^ i) w)) out out ok
          (across-of t) (across-of t') (ap (λ j. take j b) z) (ap (λ j. drop j b) z) rest_is refl 𝓠 in
          let s = step_of i k n g t t' w 𝓣.coding top_long len off end 𝓟 m (take len b) (drop len b) out (put_mid m (e - m) w₁ out) ok 𝓣.behind
          (length-take len b ∙ omega (arith, length_block)) (length-drop len b ∙ omega (arith, length_block)) (low_take len 𝓣.block) (low_drop len 𝓣.block) 𝓠'
          (put_front m (e - m) w₁ out (omega (arith, top_room)) sized m (omega arith) ∙ 𝓦.kept)
          (ap (λ a. take a (drop m (put_mid m (e - m) w₁ out))) (sym j) ∙ put_part m (e - m) w₁ out (omega (arith, top_room)) sized) in
          record { answer = ap (λ y. same_lent 𝓕 (suc i) k n g t t' y w) (sym (take-append-drop len b)) ∙ s.answer; kept = s.kept; block = s.block }
