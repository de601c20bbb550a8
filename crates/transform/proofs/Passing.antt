-- The words of a slice during a pass, block after block, and from pass to pass. Assumes nothing.
use mathlib.Core.Path.{◌≡◌, refl, sym, ap, ap₂, ◌∙◌, subst}
use mathlib.Core.List.{List, ◌++◌, append-nil}
use Prim.Native.Nat.{ℕ, suc, ◌+◌, ◌*◌, ◌-◌, ◌/◌, ◌^◌, ◌<◌, ◌≤◌}
use native.Mathlib.Nat.{suc-mul, zero-mul, mul-le-mul_right}
use native.Mathlib.Numerals.{add-one}
use native.Mathlib.Omega.{arith}
use lib.ListN.{length, take, drop, length-append, length-take, length-drop, drop_of_length-le}
use lib.Pow.{pow_mono}
use lib.Seq.{drop_at, take_all, length-take-le}
use borrow.Rule.Slice.PartMut.{put_mid}
use Rattle.algebra.specs.Words.{PrimeField}
use Rattle.algebra.specs.WordLists.{Low, low_take, low_drop, low_words, elements, to_words, length_elements, length_words_lem, elements_take, elements_drop, elements_words, words_elements, words_take, words_drop}
use Rattle.residue.specs.declared.Field.{Field as Choice}
use Rattle.residue.specs.Elements.{P}
use Rattle.residue.specs.Chosen.{chosen}
use Rattle.transform.specs.declared.Way.{Way}
use Rattle.transform.specs.Passes.{across, crossed, blocks, passes}
use Rattle.transform.proofs.Blocks.{part_written, block_room, length_blocks, block_at, length_crossed, halves, doubles, parts_joined, after, length_after, after_none, after_turn, after_all}

module _ (𝓕 : PrimeField) where
  open 𝓕 use {modulus as P, field as F}
  open F use {ring as K}
  open K use {R as Element}

  -- the words after a pass over c blocks of twice h words
  abbrev pub passed : (Element → Element → Element) → ℕ → ℕ → List ℕ → List ℕ
  passed f h c ws = to_words 𝓕 (blocks (crossed f h) (h + h) c (elements 𝓕 ws))

  -- before block i, which begins at a, the words below a are as after the pass
  pub record Passing (f : Element → Element → Element) (h c : ℕ) (ws : List ℕ) (i a : ℕ) (out : List ℕ) : Type 0 where
    pub size : length ws ≡ c * (h + h)
    pub low : Low P ws
    pub most : i ≤ c
    pub at : a ≡ i * (h + h)
    pub is : out ≡ take a (passed f h c ws) ++ drop a ws

  pub passing_none : (f : Element → Element → Element) (h c : ℕ) (ws : List ℕ) → length ws ≡ c * (h + h) → Low P ws → Passing f h c ws 0 0 ws
  passing_none f h c ws e low = record { size = e; low = low; most = omega arith; at = sym (zero-mul (h + h)); is = refl }

  module _ {f : Element → Element → Element} {h c : ℕ} {ws : List ℕ} {i a : ℕ} {out : List ℕ} (x : Passing f h c ws i a out) where
    length_all : length (elements 𝓕 ws) ≡ c * (h + h)
    length_all = length_elements 𝓕 ws ∙ x.size

    length_passed : length (passed f h c ws) ≡ length ws
    length_passed = length_words_lem 𝓕 _ ∙ length_blocks (crossed f h) (h + h) (length_crossed f h) c (elements 𝓕 ws) length_all ∙ sym x.size

    pub passing_room : i < c → a + h + h ≤ length ws
    passing_room p = omega (arith, x.at, x.size, block_room c (h + h) i p)

    -- the code's size of a block
    whole : a + h + h - a ≡ h + h
    whole = omega arith

    same_part : i < c → take (a + h + h - a) (drop a out) ≡ take (h + h) (drop a ws)
    same_part p =
        ap₂ (λ k l. take k (drop a l)) whole x.is
        ∙ ap (take (h + h)) (drop_at (take a (passed f h c ws)) (drop a ws) a (length-take-le a (passed f h c ws) (omega (arith, length_passed, passing_room p))))

    -- what a turn hands over
    pub passing_asks : i < c → (length (take (a + h + h - a) (drop a out)) ≡ h + h) × Low P (take (a + h + h - a) (drop a out))
    passing_asks p =
        let r = passing_room p in
        rw (same_part p) (length-take-le (h + h) (drop a ws) (simp length-drop (omega arith)), low_take (h + h) (low_drop a x.low))

    -- i blocks are not longer than all
    begun : a ≤ length ws
    begun = omega (arith, x.at, x.size, mul-le-mul_right (h + h) x.most)

    pub passing_length : length out ≡ length ws
    passing_length =
        ap length x.is ∙ length-append (take a (passed f h c ws)) (drop a ws)
        ∙ simp (length-take, length-drop) (omega (arith, length_passed, begun))

    block : i < c → take (h + h) (drop a (passed f h c ws)) ≡ to_words 𝓕 (crossed f h (elements 𝓕 (take (h + h) (drop a ws))))
    block p =
        ap (take (h + h)) (sym (words_drop 𝓕 a _)) ∙ sym (words_take 𝓕 (h + h) _)
        ∙ ap (to_words 𝓕)
        (ap (λ m. take (h + h) (drop m (blocks (crossed f h) (h + h) c (elements 𝓕 ws)))) x.at
        ∙ block_at (crossed f h) (h + h) (length_crossed f h) c i (elements 𝓕 ws) length_all p
        ∙ ap (λ m. crossed f h (take (h + h) (drop m (elements 𝓕 ws)))) (sym x.at)
        ∙ ap (λ l. crossed f h (take (h + h) l)) (sym (elements_drop 𝓕 a ws))
        ∙ ap (crossed f h) (sym (elements_take 𝓕 (h + h) (drop a ws))))

    pub passing_turn : {r : List ℕ} → i < c → r ≡ to_words 𝓕 (crossed f h (elements 𝓕 (take (a + h + h - a) (drop a out))))
        → Passing f h c ws (i + 1) (a + h + h) (put_mid a (a + h + h - a) out r)
    passing_turn {r} p t = record {
      size = x.size;
      low = x.low;
      most = omega arith;
      at = omega (arith, x.at, ap (λ n. n * (h + h)) (add-one i) ∙ suc-mul i (h + h));
      is =
          ap (λ k. put_mid a k out r) whole
          ∙ part_written a (h + h) (a + h + h) (passed f h c ws) ws out r (omega arith) (passing_room p) length_passed x.is
          (t ∙ ap (λ l. to_words 𝓕 (crossed f h (elements 𝓕 l))) (same_part p) ∙ sym (block p));
    }

    pub passing_end : c ≤ i → out ≡ passed f h c ws
    passing_end p =
        let same : i ≡ c = omega (arith, x.most) in
        let n : a ≡ length ws = x.at ∙ ap (λ m. m * (h + h)) same ∙ sym x.size in
        x.is
        ∙ ap₂ ◌++◌ (take_all a (passed f h c ws) (omega (arith, length_passed))) (drop_of_length-le ws {i = a} (omega arith))
        ∙ append-nil (passed f h c ws)

  -- before the pass of variable k, of d: blocks of h words, n of them, have been through the passes before
  pub record Reached (f : Element → Element → Element) (d : ℕ) (ws : List ℕ) (k h n : ℕ) (out : List ℕ) : Type 0 where
    pub size : length ws ≡ 2 ^ d
    pub low : Low P ws
    pub most : k ≤ d
    pub half : h ≡ 2 ^ k
    pub count : n ≡ 2 ^ (d - k)
    pub is : out ≡ to_words 𝓕 (after f d k (elements 𝓕 ws))

  pub reached_none : (f : Element → Element → Element) (d : ℕ) (ws : List ℕ) → length ws ≡ 2 ^ d → Low P ws → Reached f d ws 0 1 (length ws) ws
  reached_none f d ws e low =
      let all : d - 0 ≡ d = omega arith in
      record {
        size = e;
        low = low;
        most = omega arith;
        half = refl;
        count = e ∙ ap (λ n. 2 ^ n) (sym all);
        is = sym (ap (to_words 𝓕) (after_none f d (elements 𝓕 ws) (length_elements 𝓕 ws ∙ e)) ∙ words_elements 𝓕 ws low);
      }

  module _ {f : Element → Element → Element} {d : ℕ} {ws : List ℕ} {k h n : ℕ} {out : List ℕ} (x : Reached f d ws k h n out) where
    elems : length (elements 𝓕 ws) ≡ 2 ^ d
    elems = length_elements 𝓕 ws ∙ x.size

    pub reached_length : length out ≡ length ws
    reached_length = ap length x.is ∙ length_words_lem 𝓕 _ ∙ length_after f d k (elements 𝓕 ws) x.most elems ∙ sym x.size

    module _ (l : k < d) where
      fewer : n / 2 ≡ 2 ^ (d - suc k)
      fewer = omega (arith, x.count, halves k d l)

      pub reached_asks : (length out ≡ n / 2 * (h + h)) × Low P out
      reached_asks = (
        reached_length ∙ x.size ∙ sym (ap₂ (λ u v. u * (v + v)) fewer x.half ∙ parts_joined d k l),
        rw x.is (low_words 𝓕 _),
      )

      longer : h * 2 ≡ 2 ^ suc k
      longer = omega (arith, x.half, doubles k)

      pub reached_fits : h * 2 ≤ length ws
      reached_fits = omega (arith, longer, x.size, pow_mono l)

      pub reached_turn : {r : List ℕ} → r ≡ passed f h (n / 2) out → Reached f d ws (k + 1) (h * 2) (n / 2) r
      reached_turn {r} t =
          rw (add-one k)
          (record {
            size = x.size;
            low = x.low;
            most = l;
            half = longer;
            count = fewer;
            is =
                t ∙ ap (λ o. passed f h (n / 2) o) x.is
                ∙ ap (λ v. to_words 𝓕 (blocks (crossed f h) (h + h) (n / 2) v)) (elements_words 𝓕 _)
                ∙ ap₂ (λ u v. to_words 𝓕 (blocks (crossed f u) (u + u) v (after f d k (elements 𝓕 ws)))) x.half fewer
                ∙ ap (to_words 𝓕) (after_turn f d k (elements 𝓕 ws) l elems);
          })

    pub reached_end : d ≤ k → out ≡ to_words 𝓕 (passes f d (elements 𝓕 ws))
    reached_end l =
        let same : k ≡ d = omega (arith, x.most) in
        x.is ∙ ap (λ m. to_words 𝓕 (after f d m (elements 𝓕 ws))) same ∙ ap (to_words 𝓕) (after_all f d (elements 𝓕 ws) elems)

-- a pass over the chosen field, one way
module _ (way : Way) (c : ℕ) (ws : List ℕ) where
  abbrev swept : Choice → ℕ → List ℕ
  swept f h = passed (chosen f) (across (chosen f) way) h c ws

  -- a field and a half that are known are that field and that number
  pub known_asks : {f : Choice} {h : ℕ} (g : Choice) (k : ℕ) → f ≡ g → h ≡ k
      → (length ws ≡ c * (h + h)) × Low (P (chosen f)) ws → (length ws ≡ c * (k + k)) × Low (P (chosen g)) ws
  known_asks g k e n p = (p.0 ∙ ap (λ m. c * (m + m)) n, subst (λ x. Low (P (chosen x)) ws) e p.1)

  pub known_end : {f : Choice} {h : ℕ} (g : Choice) (k : ℕ) → f ≡ g → h ≡ k → {r : List ℕ} → r ≡ swept g k → r ≡ swept f h
  known_end g k e n p = p ∙ ap₂ swept (sym e) (sym n)
