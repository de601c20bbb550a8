-- From level to level down to one base message. Assumes nothing.
use mathlib.Core.Path.{◌≡◌, refl, sym, ap, ap₂, ◌∙◌}
use mathlib.Core.Bool.{Bool, true, false, not}
use mathlib.Core.List.{List}
use Prim.Native.Nat.{ℕ, suc, ◌+◌, ◌*◌, ◌-◌, ◌^◌, ◌≤◌}
use native.Mathlib.Nat.{mul-one, mul_assoc, mul-le-mul, mul-le-mul_left, mul-le-mul_right}
use native.Mathlib.Omega.{arith}
use lib.ListN.{length, take, drop, length-take, length-drop}
use lib.Pow.{pow_pos}
use lib.Seq.{take-take}
use Rattle.algebra.specs.Flags.{stops, goes}
use Rattle.algebra.specs.Matrix.{times}
use Rattle.algebra.specs.Words.{PrimeField}
use Rattle.algebra.specs.WordLists.{Low, low_take, elements, to_words}
use Rattle.algebra.specs.Tests.{all_same}
use Rattle.foldable.specs.Code.{encode, generator}
use Rattle.foldable.specs.Encode.{double}
use Rattle.job.specs.Limits.{max_message, block_size}
use Rattle.job.specs.LimitLaws.{power_most}
use Rattle.cofactor.specs.Rows.{rows}
use Rattle.job.specs.SizeLaws.{size_most}
use Rattle.base_spread.specs.LentRows.{codeword_rows}
use Rattle.base_block.specs.Blocks.{block_of}
use Rattle.halves_step.proofs.Places.{take_front}
use Rattle.base_halves_step.specs.Steps.{BaseLent}
use Rattle.base_halves.specs.Comparing.{CompareInput, Compared}
use Rattle.base_halves.specs.Steps.{same_lent, same_rest, TopLent, CheckLent, Stepped, Checked}
use Rattle.base_halves.proofs.Halving.{rows_below}

base_size_lem : (d n : ℕ) → d ≡ 0 → n * 2 ^ d ≡ n
base_size_lem d n z = ap (λ j. n * 2 ^ j) z ∙ mul-one n

least_size : (k d : ℕ) → k ≤ k * 2 ^ d
least_size k d = omega (arith, mul-le-mul_left {m = 1} {n = 2 ^ d} k (pow_pos d), mul-one k)

module _ (𝓕 : PrimeField) where
  open 𝓕 use {modulus as P, field as F}
  open F use {ring as K}

  -- the codeword of one base message
  base_codeword : (k n : ℕ) (g t t' m : List ℕ) → length m ≡ k → codeword_rows 𝓕 0 k n g t t' m ≡ block_of 𝓕 n g m
  unfolding block_of encode generator
  base_codeword k n g t t' m e = ap₂ (λ a b. to_words 𝓕 (times K a (elements 𝓕 m) (rows 𝓕 b n g))) (mul-one n) (sym e)

  base_same : (d k n : ℕ) (g t t' w : List ℕ) → d ≡ 0 → k ≤ length w → codeword_rows 𝓕 d k n g t t' (take (k * 2 ^ d) w) ≡ block_of 𝓕 n g (take k w)
  base_same d k n g t t' w z h =
      ap (λ j. codeword_rows 𝓕 j k n g t t' (take (k * 2 ^ j) w)) z
      ∙ ap (λ j. codeword_rows 𝓕 0 k n g t t' (take j w)) (mul-one k)
      ∙ base_codeword k n g t t' (take k w) (length-take k w ∙ omega arith)

  -- the left half of a message in front that is kept
  left_low : (i k m : ℕ) (w w' : List ℕ) → k * 2 ^ suc i ≤ m → take m w' ≡ take m w → Low P (take (k * 2 ^ suc i) w) → Low P (take (k * 2 ^ i) w')
  left_low i k m w w' h kept l =
      rw (take_front m w' w kept (k * 2 ^ i) (omega (arith, double k i)))
      (rw (take-take (k * 2 ^ i) (k * 2 ^ suc i) w (omega (arith, double k i))) at (low_take (k * 2 ^ i) l))

  -- the base block x that was made of the message in front of w, in front of an array
  module _ (k n : ℕ) (g w x : List ℕ) (wide : n ≤ 64) (q : (length x ≡ 64) × (take n x ≡ block_of 𝓕 n g (take k w))) where
    pub made_within : n ≤ length x
    made_within = omega (arith, q.0)

    pub length_made : length (take n x) ≡ n
    length_made = length-take n x ∙ omega (arith, made_within)

  -- level 0, in the rest
  module _ (d k n m : ℕ) (g t t' w : List ℕ) (𝓒 : CheckLent 𝓕 d k n m g t t' w) where
    long : k * 2 ^ d ≤ length w
    long = omega (arith, 𝓒.behind, 𝓒.within)

    pub rest_some : k ≤ length w
    rest_some = omega (arith, least_size k d, long)

    pub rest_wide : n ≤ 64
    rest_wide = 𝓒.wide

    pub rest_front : length (take k w) ≡ k
    rest_front = length-take k w ∙ omega (arith, rest_some)

    module _ (z : d ≡ 0) where
      pub rest_room : m + n ≤ length w
      rest_room = omega (arith, 𝓒.within, base_size_lem d n z)

      pub rest_base : BaseLent 𝓕 n g (take k w)
      rest_base = record { lent = rw rest_front 𝓒.coding.lent; low = rw (base_size_lem d k z) at 𝓒.message; wide = 𝓒.wide }

      module _ (x : List ℕ) (q : (length x ≡ 64) × (take n x ≡ block_of 𝓕 n g (take k w))) where
        pub rest_sized : length (take (m + n - m) (drop m w)) ≡ length (take n x)
        rest_sized = length-take (m + n - m) (drop m w) ∙ omega (arith, length-drop m w, rest_room, length_made k n g w x rest_wide q)

        pub rest_checked : (r : Bool) → r ≡ all_same (take n x) (take (m + n - m) (drop m w)) → Checked 𝓕 d k n m g t t' w r w
        rest_checked r e =
            let s : m + n - m ≡ n = omega arith in
            record {
              answer = e ∙ ap₂ all_same (q.1 ∙ sym (base_same d k n g t t' w z rest_some)) (ap (λ j. take j (drop m w)) (s ∙ sym (base_size_lem d n z)));
              kept = refl;
            }

  -- from a level to the one below
  module _ (d i k n m : ℕ) (g t t' w : List ℕ) (e : suc i ≡ d) (𝓒 : CheckLent 𝓕 d k n m g t t' w) where
    pub step_down : CheckLent 𝓕 (suc i) k n m g t t' w
    step_down = rw e 𝓒

    module _ (ok : Bool) (w' : List ℕ) (l : length w' ≡ length w) (𝓢 : Stepped 𝓕 i k n m g t t' (same_rest 𝓕 (suc i) k n m g t t' w) w ok w') where
      pub check_next : CheckLent 𝓕 i k n m g t t' w'
      check_next =
          let 𝓓 = step_down in
          record {
            coding = rows_below 𝓕 i 𝓓.coding;
            depth = omega (arith, 𝓓.depth);
            wide = 𝓓.wide;
            message = left_low i k m w w' 𝓓.behind 𝓢.kept 𝓓.message;
            behind = omega (arith, 𝓓.behind, double k i);
            within = omega (arith, 𝓓.within, double n i);
            block = 𝓢.block;
          }

      same_is : same_rest 𝓕 (suc i) k n m g t t' w ≡ same_rest 𝓕 d k n m g t t' w
      same_is = ap (λ j. same_rest 𝓕 j k n m g t t' w) e

      check_false : not ok ≡ true → false ≡ same_rest 𝓕 d k n m g t t' w
      check_false h = stops {r = ok} {a = ok} (same_rest 𝓕 i k n m g t t' w') refl h ∙ sym 𝓢.answer ∙ same_is

      check_same : not ok ≡ false → same_rest 𝓕 d k n m g t t' w ≡ same_rest 𝓕 i k n m g t t' w'
      check_same h = sym (goes {r = ok} {a = ok} refl h refl ∙ sym 𝓢.answer ∙ same_is)

  -- what is known at level j, where w₀ was at level d
  pub record AtLevel (d j k n m : ℕ) (g t t' w₀ w : List ℕ) : Type 0 where
    pub lent : CheckLent 𝓕 j k n m g t t' w
    pub size : length w ≡ length w₀
    pub same : same_rest 𝓕 d k n m g t t' w₀ ≡ same_rest 𝓕 j k n m g t t' w
    pub kept : take m w ≡ take m w₀

  pub at_first : (d k n m : ℕ) (g t t' w : List ℕ) → CheckLent 𝓕 d k n m g t t' w → AtLevel d d k n m g t t' w w
  at_first d k n m g t t' w 𝓒 = record { lent = 𝓒; size = refl; same = refl; kept = refl }

  module _ (d j k n m : ℕ) (g t t' w₀ w : List ℕ) (𝓐 : AtLevel d j k n m g t t' w₀ w) where
    -- a step to the level below
    module _ (i : ℕ) (e : suc i ≡ j) (ok : Bool) (w' : List ℕ) (l : length w' ≡ length w) (𝓢 : Stepped 𝓕 i k n m g t t' (same_rest 𝓕 (suc i) k n m g t t' w) w ok w') where
      pub at_fails : not ok ≡ true → Checked 𝓕 d k n m g t t' w₀ false w'
      at_fails h = record { answer = check_false j i k n m g t t' w e 𝓐.lent ok w' l 𝓢 h ∙ sym 𝓐.same; kept = 𝓢.kept ∙ 𝓐.kept }

      pub at_next : not ok ≡ false → AtLevel d i k n m g t t' w₀ w'
      at_next h =
          record {
            lent = check_next j i k n m g t t' w e 𝓐.lent ok w' l 𝓢;
            size = l ∙ 𝓐.size;
            same = 𝓐.same ∙ check_same j i k n m g t t' w e 𝓐.lent ok w' l 𝓢 h;
            kept = 𝓢.kept ∙ 𝓐.kept;
          }

    pub at_last : (z : j ≡ 0) (x : List ℕ) → (length x ≡ 64) × (take n x ≡ block_of 𝓕 n g (take k w)) → (r : Bool) → r ≡ all_same (take n x) (take (m + n - m) (drop m w)) → Checked 𝓕 d k n m g t t' w₀ r w
    at_last z x q r e = record { answer = (rest_checked j k n m g t t' w 𝓐.lent z x q r e).answer ∙ sym 𝓐.same; kept = 𝓐.kept }

  -- the lent block
  module _ (d k n : ℕ) (g t t' b w : List ℕ) (𝓘 : CompareInput 𝓕 d k n g t t' b w) where
    least : 4 * (k * 2 ^ d) ≤ length w
    least = omega (arith, 𝓘.work, mul-le-mul_right (2 ^ d) 𝓘.narrow, mul_assoc 4 k (2 ^ d))

    pub lent_some : k ≤ length w
    lent_some = omega (arith, least_size k d, least)

    pub lent_wide : n ≤ 64
    lent_wide = 𝓘.wide

    pub lent_front : length (take k w) ≡ k
    lent_front = length-take k w ∙ omega (arith, lent_some)

    -- the message has few words
    pub message_few : (q : ℕ) → q ≡ 2 ^ d → k * q ≤ 4 * max_message
    message_few q e = let most : q ≤ max_message = rw e (power_most d 𝓘.depth) in mul-le-mul (size_most 𝓘.coding.lent.size) most

    -- at depth 0
    module _ (z : d ≡ 0) where
      pub lent_base : BaseLent 𝓕 n g (take k w)
      lent_base = record { lent = rw lent_front 𝓘.coding.lent; low = rw (base_size_lem d k z) at 𝓘.message; wide = 𝓘.wide }

      module _ (x : List ℕ) (q : (length x ≡ 64) × (take n x ≡ block_of 𝓕 n g (take k w))) where
        pub lent_sized : length b ≡ length (take n x)
        lent_sized = 𝓘.size ∙ base_size_lem d n z ∙ sym (length_made k n g w x lent_wide q)

        pub lent_compared : (r : Bool) → r ≡ all_same (take n x) b → Compared 𝓕 d k n g t t' b w r w
        lent_compared r e = record { answer = e ∙ ap (λ v. all_same v b) (q.1 ∙ sym (base_same d k n g t t' w z lent_some)); message = refl }

    -- from depth i + 1
    module _ (i q : ℕ) (e : suc i ≡ d) (q-is : q ≡ 2 ^ d) where
      abbrev m : ℕ
      m = k * q

      m_is : k * q ≡ k * 2 ^ d
      m_is = ap (λ j. k * j) q-is

      halves : length w ≡ block_size n i + block_size n i
      halves = 𝓘.work ∙ ap (block_size n) (sym e) ∙ double n i

      pub top_down : TopLent 𝓕 i k n m g t t' b w
      top_down =
          let coding = 𝓘.coding in
          let message = 𝓘.message in
          record {
            coding = rw e coding;
            depth = omega (arith, 𝓘.depth);
            wide = 𝓘.wide;
            message = rw e message;
            behind = rw e (omega (arith, m_is));
            within = omega (arith, halves, least, m_is);
            size = rw e 𝓘.size;
            block = 𝓘.block;
          }

      module _ (ok : Bool) (w' : List ℕ) (l : length w' ≡ length w) (𝓢 : Stepped 𝓕 i k n m g t t' (same_lent 𝓕 (suc i) k n g t t' b w) w ok w') where
        pub top_next : CheckLent 𝓕 i k n m g t t' w'
        top_next =
            let 𝓣 = top_down in
            record {
              coding = rows_below 𝓕 i 𝓣.coding;
              depth = 𝓣.depth;
              wide = 𝓣.wide;
              message = left_low i k m w w' 𝓣.behind 𝓢.kept 𝓣.message;
              behind = omega (arith, 𝓣.behind, double k i);
              within = omega (arith, halves, least, m_is);
              block = 𝓢.block;
            }

        same_lent_lem : same_lent 𝓕 (suc i) k n g t t' b w ≡ same_lent 𝓕 d k n g t t' b w
        same_lent_lem = ap (λ j. same_lent 𝓕 j k n g t t' b w) e

        kept_is : (out : List ℕ) → take m out ≡ take m w → take (k * 2 ^ d) out ≡ take (k * 2 ^ d) w
        kept_is out h = rw m_is at h

        pub compare_fails : not ok ≡ true → Compared 𝓕 d k n g t t' b w false w'
        compare_fails h = record { answer = stops {r = ok} {a = ok} (same_rest 𝓕 i k n m g t t' w') refl h ∙ sym 𝓢.answer ∙ same_lent_lem; message = kept_is w' 𝓢.kept }

        pub compare_goes : (r : Bool) (out : List ℕ) → not ok ≡ false → Checked 𝓕 i k n m g t t' w' r out → Compared 𝓕 d k n g t t' b w r out
        compare_goes r out h 𝓒 = record { answer = goes {r = ok} {a = ok} refl h 𝓒.answer ∙ sym 𝓢.answer ∙ same_lent_lem; message = kept_is out (𝓒.kept ∙ 𝓢.kept) }
