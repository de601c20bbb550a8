-- The loops that peel the codeword of a right half off a block. Assumes nothing.
use mathlib.Core.Path.{◌≡◌, refl, sym, ap, ap₂, ◌∙◌}
use mathlib.Core.Bool.{Bool, true, ◌&&◌}
use mathlib.Core.List.{List, ◌++◌}
use Prim.Native.Nat.{ℕ, ◌+◌, ◌<◌, ◌≤◌}
use native.Mathlib.Omega.{arith}
use lib.Dec.{eqb}
use lib.ListN.{length, take, drop, get_or, set, length-take, length-drop}
use lib.Seq.{get_or-take, get_or-drop, take_at, drop-drop}
use Rattle.algebra.specs.Filling.{Filled, filled_none, filled_turn, filled_end, filled_old, filled_length}
use Rattle.algebra.specs.Lists.{zip, length_zip, get_or_zip}
use Rattle.algebra.specs.Tests.{all₂_none, all₂_turn, all₂_end, all_same}
use Rattle.algebra.specs.Words.{PrimeField}
use Rattle.algebra.specs.WordLists.{elements, to_words, length_elements, length_words_lem, get_or_elements, get_or_words}
use Rattle.halves_step.specs.Steps.{peeled, raised, LentPeel, FrontPeel, Peeled}

-- of a block in front of w, with the codeword behind it
abbrev pub first_of : List ℕ → List ℕ → List ℕ
first_of t w = take (length t) w

abbrev pub second_of : List ℕ → List ℕ → List ℕ
second_of t w = take (length t) (drop (length t) w)

abbrev pub third_of : List ℕ → List ℕ → List ℕ
third_of t w = drop (length t + length t) w

module _ (𝓕 : PrimeField) where
  infixl 65 ◌⊞◌
  infixl 65 ◌⊟◌
  infixl 70 ◌⊠◌
  open 𝓕 use {modulus as P, field as F, words as W}
  open F use {ring as K}
  open K use {R as Element, ◌+◌ as ◌⊞◌, ◌*◌ as ◌⊠◌, ◌-◌ as ◌⊟◌}
  open W use {el, val as word}

  -- l f (t r), of words
  abbrev mixed : (Element → Element → Element) → List ℕ → List ℕ → List ℕ → List ℕ
  mixed f l t r = to_words 𝓕 (zip f (elements 𝓕 l) (zip ◌⊠◌ (elements 𝓕 t) (elements 𝓕 r)))

  module _ (n : ℕ) (f : Element → Element → Element) (l t r : List ℕ) (ll : length l ≡ n) (lt : length t ≡ n) (lr : length r ≡ n) where
    product : length (zip ◌⊠◌ (elements 𝓕 t) (elements 𝓕 r)) ≡ n
    product = length_zip ◌⊠◌ (elements 𝓕 t) (elements 𝓕 r) n (length_elements 𝓕 t ∙ lt) (length_elements 𝓕 r ∙ lr)

    length_mixed : length (mixed f l t r) ≡ n
    length_mixed = length_words_lem 𝓕 _ ∙ length_zip f (elements 𝓕 l) _ n (length_elements 𝓕 l ∙ ll) product

    mixed_at : (i : ℕ) → i < n → get_or (mixed f l t r) i 0 ≡ word (f (el (get_or l i 0)) (el (get_or t i 0) ⊠ el (get_or r i 0)))
    mixed_at i h =
        let a = length_elements 𝓕 l in
        let b = length_elements 𝓕 t in
        let c = length_elements 𝓕 r in
        get_or_words 𝓕 _ i
        ∙ ap word
        (get_or_zip f (elements 𝓕 l) (zip ◌⊠◌ (elements 𝓕 t) (elements 𝓕 r)) K.𝟘 K.𝟘 K.𝟘 i (omega arith) (omega (arith, product))
        ∙ ap₂ f (get_or_elements 𝓕 l i)
        (get_or_zip ◌⊠◌ (elements 𝓕 t) (elements 𝓕 r) K.𝟘 K.𝟘 K.𝟘 i (omega arith) (omega arith) ∙ ap₂ ◌⊠◌ (get_or_elements 𝓕 t i) (get_or_elements 𝓕 r i)))

  module _ (n : ℕ) (l t r : List ℕ) (ll : length l ≡ n) (lt : length t ≡ n) (lr : length r ≡ n) where
    pub length_peeled : length (peeled 𝓕 l t r) ≡ n
    unfolding peeled
    length_peeled = length_mixed n ◌⊟◌ l t r ll lt lr

    peeled_at : (i : ℕ) → i < n → get_or (peeled 𝓕 l t r) i 0 ≡ word (el (get_or l i 0) ⊟ el (get_or t i 0) ⊠ el (get_or r i 0))
    unfolding peeled
    peeled_at i h = mixed_at n ◌⊟◌ l t r ll lt lr i h

    pub length_raised : length (raised 𝓕 l t r) ≡ n
    unfolding raised
    length_raised = length_mixed n ◌⊞◌ l t r ll lt lr

    raised_at : (i : ℕ) → i < n → get_or (raised 𝓕 l t r) i 0 ≡ word (el (get_or l i 0) ⊞ el (get_or t i 0) ⊠ el (get_or r i 0))
    unfolding raised
    raised_at i h = mixed_at n ◌⊞◌ l t r ll lt lr i h

  -- the flag before turn i
  abbrev pub FlagTo : List ℕ → List ℕ → List ℕ → List ℕ → List ℕ → ℕ → Bool → Type 0
  FlagTo t t' u v r i ok = ok ≡ all_same (take i (raised 𝓕 (peeled 𝓕 u t r) t' r)) (take i v)

  module _ (n : ℕ) (t t' u v r : List ℕ) (lt : length t ≡ n) (lt' : length t' ≡ n) (lu : length u ≡ n) (lv : length v ≡ n) (lr : length r ≡ n) where
    long : length (peeled 𝓕 u t r) ≡ n
    long = length_peeled n u t r lu lt lr

    -- a turn: the words a, y and x of u, v and r
    module _ (i a x y l s : ℕ) (h : i < n) (ea : a ≡ get_or u i 0) (ex : x ≡ get_or r i 0) (ey : y ≡ get_or v i 0)
        (el-is : l ≡ word (el a ⊟ el (get_or t i 0) ⊠ el x)) (es : s ≡ word (el l ⊞ el (get_or t' i 0) ⊠ el x)) where
      left_is : l ≡ get_or (peeled 𝓕 u t r) i 0
      left_is = el-is ∙ ap₂ (λ p q. word (el p ⊟ el (get_or t i 0) ⊠ el q)) ea ex ∙ sym (peeled_at n u t r lu lt lr i h)

      second_is : s ≡ get_or (raised 𝓕 (peeled 𝓕 u t r) t' r) i 0
      second_is = es ∙ ap₂ (λ p q. word (el p ⊞ el (get_or t' i 0) ⊠ el q)) left_is ex ∙ sym (raised_at n (peeled 𝓕 u t r) t' r long lt' lr i h)

      flag_turn : {ok : Bool} → FlagTo t t' u v r i ok → FlagTo t t' u v r (i + 1) (ok && eqb s y)
      flag_turn p =
          let q = length_raised n (peeled 𝓕 u t r) t' r long lt' lr in
          all₂_turn eqb i (raised 𝓕 (peeled 𝓕 u t r) t' r) v 0 (omega arith) (omega arith) p (ap₂ eqb second_is ey)

    flag_end : (i : ℕ) {ok : Bool} → n ≤ i → FlagTo t t' u v r i ok → ok ≡ all_same (raised 𝓕 (peeled 𝓕 u t r) t' r) v
    flag_end i h p = all₂_end eqb i (raised 𝓕 (peeled 𝓕 u t r) t' r) v (λ a b. absurd (omega arith)) p

  -- of a lent block
  abbrev pub LentTo : List ℕ → List ℕ → List ℕ → List ℕ → ℕ → Bool → List ℕ → Type 0
  LentTo t t' b r i ok out =
      let u = take (length t) b in
      let v = drop (length t) b in
      FlagTo t t' u v r i ok × Filled i (peeled 𝓕 u t r) r out

  module _ (t t' b r : List ℕ) (𝓟 : LentPeel 𝓕 t t' b r) where
    lu : length (take (length t) b) ≡ length t
    lu = let s = 𝓟.size in simp length-take (omega arith)

    lv : length (drop (length t) b) ≡ length t
    lv = let s = 𝓟.size in simp length-drop (omega arith)

    pub lent_none : LentTo t t' b r 0 true r
    lent_none = (all₂_none eqb (raised 𝓕 (peeled 𝓕 (take (length t) b) t r) t' r) (drop (length t) b), filled_none _ r)

    pub lent_length : (i : ℕ) (ok : Bool) (out : List ℕ) → LentTo t t' b r i ok out → length out ≡ length r
    lent_length i ok out p = filled_length p.1

    module _ (i : ℕ) (ok : Bool) (out : List ℕ) (h : i < length t) (p : LentTo t t' b r i ok out) where
      lent_right : get_or out i 0 ≡ get_or r i 0
      lent_right = filled_old p.1 i 0 (omega arith)

      pub lent_low : get_or out i 0 < P
      lent_low = rw lent_right (𝓟.words.low i (omega (arith, 𝓟.right)))

      pub lent_turn : (l : ℕ) (same : Bool) → l ≡ word (el (get_or b i 0) ⊟ el (get_or t i 0) ⊠ el (get_or out i 0)) → same ≡ eqb (word (el l ⊞ el (get_or t' i 0) ⊠ el (get_or out i 0))) (get_or b (length t + i) 0)
          → LentTo t t' b r (i + 1) (ok && same) (set out i l)
      lent_turn l same q e =
          let n = length t in
          let u = take n b in
          let v = drop n b in
          let a = sym (get_or-take n b i 0 h) in
          let y = sym (get_or-drop n b i 0) in (
            rw e (flag_turn n t t' u v r refl 𝓟.second lu lv 𝓟.right i (get_or b i 0) (get_or out i 0) (get_or b (n + i) 0) l _ h a lent_right y q refl p.0),
            filled_turn 0 (omega (arith, 𝓟.right)) (length_peeled n u t r lu refl 𝓟.right ∙ sym 𝓟.right) p.1
                (left_is n t t' u v r refl 𝓟.second lu lv 𝓟.right i (get_or b i 0) (get_or out i 0) (get_or b (n + i) 0) l _ h a lent_right y q refl),
          )

    pub lent_end : (i : ℕ) (ok : Bool) (out : List ℕ) → length t ≤ i → LentTo t t' b r i ok out → Peeled 𝓕 t t' (take (length t) b) (drop (length t) b) r ok out
    lent_end i ok out h p =
        let n = length t in
        let u = take n b in
        record {
          answer = flag_end n t t' u (drop n b) r refl 𝓟.second lu lv 𝓟.right i h p.0;
          left = filled_end (omega (arith, 𝓟.right)) (length_peeled n u t r lu refl 𝓟.right ∙ sym 𝓟.right) p.1;
        }

  -- of a block in front of w, taken apart: its halves, and the codeword behind it
  abbrev pub PartsTo : List ℕ → List ℕ → List ℕ → List ℕ → List ℕ → ℕ → Bool → List ℕ → Type 0
  PartsTo t t' u v r i ok out = FlagTo t t' u v r i ok × Filled i (peeled 𝓕 u t r) u out

  module _ (t t' w : List ℕ) (𝓟 : FrontPeel 𝓕 t t' w) {u rest v r : List ℕ} (eu : u ≡ take (length t) w) (eb : rest ≡ drop (length t) w) (ev : v ≡ take (length t) rest) (er : r ≡ drop (length t) rest) where
    v_is : v ≡ second_of t w
    v_is = ev ∙ ap (take (length t)) eb

    r_is : r ≡ third_of t w
    r_is = er ∙ ap (drop (length t)) eb ∙ drop-drop (length t) (length t) w

    l₁ : length u ≡ length t
    l₁ = let s = 𝓟.size in ap length eu ∙ simp length-take (omega arith)

    l₂ : length v ≡ length t
    l₂ = let s = 𝓟.size in ap length v_is ∙ simp (length-take, length-drop) (omega arith)

    l₃ : length r ≡ length t
    l₃ = let s = 𝓟.size in ap length r_is ∙ simp length-drop (omega arith)

    pub parts_none : PartsTo t t' u v r 0 true u
    parts_none = (all₂_none eqb (raised 𝓕 (peeled 𝓕 u t r) t' r) v, filled_none _ u)

    module _ (i : ℕ) (ok : Bool) (out : List ℕ) (h : i < length t) (p : PartsTo t t' u v r i ok out) where
      as_lent : get_or out i 0 ≡ get_or u i 0
      as_lent = filled_old p.1 i 0 (omega arith)

      pub parts_low : (get_or out i 0 < P) × (get_or r i 0 < P)
      parts_low =
          let n = length t in
          let s = 𝓟.size in (
            rw (as_lent ∙ ap (λ l. get_or l i 0) eu ∙ get_or-take n w i 0 h) (𝓟.words.low i (omega arith)),
            rw (ap (λ l. get_or l i 0) r_is ∙ get_or-drop (n + n) w i 0) (𝓟.words.low (n + n + i) (omega arith)),
          )

      pub parts_turn : (l : ℕ) (same : Bool) → l ≡ word (el (get_or out i 0) ⊟ el (get_or t i 0) ⊠ el (get_or r i 0)) → same ≡ eqb (word (el l ⊞ el (get_or t' i 0) ⊠ el (get_or r i 0))) (get_or v i 0)
          → PartsTo t t' u v r (i + 1) (ok && same) (set out i l)
      parts_turn l same q e =
          let n = length t in (
            rw e (flag_turn n t t' u v r refl 𝓟.second l₁ l₂ l₃ i (get_or out i 0) (get_or r i 0) (get_or v i 0) l _ h as_lent refl refl q refl p.0),
            filled_turn 0 (omega (arith, l₁)) (length_peeled n u t r l₁ refl l₃ ∙ sym l₁) p.1
                (left_is n t t' u v r refl 𝓟.second l₁ l₂ l₃ i (get_or out i 0) (get_or r i 0) (get_or v i 0) l _ h as_lent refl refl q refl),
          )

    pub parts_end : (i : ℕ) (ok : Bool) (out : List ℕ) → length t ≤ i → PartsTo t t' u v r i ok out
        → Peeled 𝓕 t t' (first_of t w) (second_of t w) (third_of t w) ok (take (length t) (out ++ rest))
    parts_end i ok out h p =
        let n = length t in
        rw (sym eu, sym v_is, sym r_is)
        (record {
          answer = flag_end n t t' u v r refl 𝓟.second l₁ l₂ l₃ i h p.0;
          left = take_at out rest n (filled_length p.1 ∙ l₁) ∙ filled_end (omega (arith, l₁)) (length_peeled n u t r l₁ refl l₃ ∙ sym l₁) p.1;
        })
