-- Texts that are pieces before other texts.
use Rattle.std.proofs.Common.{◌≡◌, ◌⊎◌, inl, inr, ℕ, zero, suc, ◌+◌, ◌-◌, ◌^◌, ◌<◌, ◌≤◌, ◌%◌, Bool, true, false, ◌&&◌, ◌||◌, not, cond, nat_lt, ◌==◌, List, [], ◌∷◌, ◌++◌, map, length, length-take, length-drop, take, drop, bytes_eq, slice_get, slice_range, get_or, None, Some, refl, sym, ap, subst, ◌∙◌, arith}
use Rattle.std.specs.List.{list_any, position, position_or_len}
use Rattle.std.specs.Map.{keys_of}
use Rattle.std.proofs.Math.Seq.{take-append-add, take-append_seam}
use Rattle.std.proofs.lemmas.Bool.{eqb-true}
use Rattle.std.proofs.lemmas.Bool.Decides.{nat_tests}
use Rattle.std.proofs.lemmas.List.{append_cancel_left, get_or_push, length-append, length-map, length_push, map-append}
use Rattle.std.proofs.lemmas.List.Folds.{drop_split, list_any_at}
use Rattle.std.proofs.lemmas.List.Quantifiers.{position-Some}
use Rattle.std.proofs.lemmas.Option.{none-some, same_Some, slice_get-get_or, slice_get_read, slice_get_within}
use Rattle.std.proofs.lemmas.Slice.Eq.{bytes_eq-Decides}
use Rattle.indexmap.specs.IndexMap.{insert_entry}
use Rattle.text_numbers.specs.declared.marks.Mark.{Mark}
use Rattle.text_numbers.specs.declared.piece.Piece.{Piece}
use Rattle.text_numbers.specs.declared.piece.Span.{Span}
use Rattle.text_numbers.specs.Texts.{is_same, texts_of, AreDifferent, AreKept, AreMarks, ArePieces, IsMade, Numbered}

-- ---- lists

got_left : {X : Type 0} (xs ys : List X) (i : ℕ) (x : X) → slice_get xs i ≡ Some x → slice_get (xs ++ ys) i ≡ Some x
got_left [] ys i x e = absurd (none-some x e)
got_left (z ∷ xs) ys zero x e = e
got_left (z ∷ xs) ys (suc i) x e = got_left xs ys i x e

got_last : {X : Type 0} (xs : List X) (x : X) (n : ℕ) → n ≡ length xs → slice_get (xs ++ x ∷ []) n ≡ Some x
got_last xs x n e =
    let l = length_push xs x in
    slice_get_read (xs ++ x ∷ []) (length xs + 1) n x (omega (arith, l)) (omega (arith, e)) (sym (get_or_push xs x x n (sym e)))

got_split : {X : Type 0} (xs : List X) (y : X) (i : ℕ) (x : X) → slice_get (xs ++ y ∷ []) i ≡ Some x → (slice_get xs i ≡ Some x) ⊎ ((i ≡ length xs) × (y ≡ x))
got_split [] y zero x e = inr (refl, same_Some y x e)
got_split [] y (suc i) x e = absurd (none-some x e)
got_split (z ∷ xs) y zero x e = inl e
got_split (z ∷ xs) y (suc i) x e = elim (got_split xs y i x e) [ inl a ↦ inl a | inr b ↦ inr (omega (arith, b.0), b.1) ]

append_parts : (xs ys us vs : List ℕ) → length xs ≡ length ys → xs ++ us ≡ ys ++ vs → (xs ≡ ys) × (us ≡ vs)
append_parts xs ys us vs l e =
    let first : xs ≡ ys = sym (take-append_seam xs us) ∙ ap (λ z. take (length xs) z) e ∙ ap (λ n. take n (ys ++ vs)) l ∙ take-append_seam ys vs in
    (first, append_cancel_left ys us vs (ap (λ z. z ++ us) (sym first) ∙ e))

length_range : (table : List ℕ) (a b : ℕ) → b ≤ length table → length (slice_range table a b) ≡ b - a
length_range table a b inside = simp (length-take, length-drop) (omega arith)

pub range_join : (table : List ℕ) (a b c : ℕ) → a ≤ b → b ≤ c → c ≤ length table → slice_range table a c ≡ slice_range table a b ++ slice_range table b c
range_join table a b c ab bc inside =
    let l : length (slice_range table a b) ≡ b - a = length_range table a b (omega arith) in
    let n : c - a ≡ length (slice_range table a b) + (c - b) = omega (arith, l) in
    ap (λ k. take k (drop a table)) n ∙ ap (λ z. take (length (slice_range table a b) + (c - b)) z) (drop_split table a b ab) ∙ take-append-add (slice_range table a b) (drop b table) (c - b)

-- ---- pieces

false-true : false ≡ true → ⊥
false-true h = cc

fst_true : (x y : Bool) → (x && y) ≡ true → x ≡ true
fst_true true y h = refl
fst_true false y h = h

snd_true : (x y : Bool) → (x && y) ≡ true → y ≡ true
snd_true true y h = h
snd_true false y h = absurd (false-true h)

both_true : (x y : Bool) → x ≡ true → y ≡ true → (x && y) ≡ true
both_true true y h k = k
both_true false y h k = h

same_bytes : (p q : Piece) → is_same p q ≡ true → p.bytes.now ≡ q.bytes.now
same_bytes p q h = (bytes_eq-Decides p.bytes.now q.bytes.now).0 (fst_true (bytes_eq p.bytes.now q.bytes.now) (p.rest == q.rest) h)

same_rest : (p q : Piece) → is_same p q ≡ true → p.rest ≡ q.rest
same_rest p q h = eqb-true p.rest q.rest (snd_true (bytes_eq p.bytes.now q.bytes.now) (p.rest == q.rest) h)

same_true : (p q : Piece) → p.bytes.now ≡ q.bytes.now → p.rest ≡ q.rest → is_same p q ≡ true
same_true p q b r =
    let s : (p.rest == q.rest) ≡ true = grind (arith, nat_tests) in
    both_true (bytes_eq p.bytes.now q.bytes.now) (p.rest == q.rest) ((bytes_eq-Decides p.bytes.now q.bytes.now).1 b) s

or_false : (x y : Bool) → (x || y) ≡ false → (x ≡ false) × (y ≡ false)
or_false true y h = cc
or_false false y h = (refl, h)

-- ---- where a piece is put

module _ (piece : Piece) where
  at_end : (b : Bool) (xs : List Piece) (n : ℕ) → n ≡ length xs → b ≡ false → cond (not b) (1 + n) 0 ≡ length xs + 1
  at_end true xs n e h = cc
  at_end false xs n e h = omega (arith, e)

  -- the place of a piece that isn't there
  none_before : (xs : List Piece) → list_any (is_same piece) xs ≡ false → position_or_len (is_same piece) xs ≡ length xs
  none_before [] h = refl
  none_before (x ∷ xs) h =
      let parts = or_false (is_same piece x) (list_any (is_same piece) xs) h in
      at_end (is_same piece x) xs (position_or_len (is_same piece) xs) (none_before xs parts.1) parts.0 ∙ omega arith

  is_low : (b any : Bool) (n l : ℕ) → (any ≡ true → n < l) → (b || any) ≡ true → cond (not b) (1 + n) 0 < 1 + l
  is_low true any n l f h = omega arith
  is_low false any n l f h = let r = f h in omega (arith, r)

  -- that of one that is
  one_before : (xs : List Piece) → list_any (is_same piece) xs ≡ true → position_or_len (is_same piece) xs < length xs
  one_before [] h = absurd (false-true h)
  one_before (x ∷ xs) h =
      let low = is_low (is_same piece x) (list_any (is_same piece) xs) (position_or_len (is_same piece) xs) (length xs) (one_before xs) h in
      omega (arith, low)

  module _ (span : Span) where
    put_new : (b : Bool) (e : Piece × Span) (es : List (Piece × Span)) → b ≡ false → cond b ((e.0, span) ∷ es) (e ∷ es ++ (piece, span) ∷ []) ≡ e ∷ es ++ (piece, span) ∷ []
    put_new true e es h = cc
    put_new false e es h = refl

    -- a piece that isn't there goes last
    goes_last : (es : List (Piece × Span)) → list_any (is_same piece) (keys_of es) ≡ false → insert_entry is_same es piece span ≡ es ++ (piece, span) ∷ []
    goes_last [] h = refl
    goes_last (e ∷ es) h =
        let parts = or_false (is_same piece e.0) (list_any (is_same piece) (keys_of es)) h in
        ap (λ l. cond (is_same piece e.0) ((e.0, span) ∷ es) (e ∷ l)) (goes_last es parts.1) ∙ put_new (is_same piece e.0) e es parts.0

    module _ (table : List ℕ) where
      abbrev texts : List (Piece × Span) → List (List ℕ)
      texts es = map (λ (p : Piece × Span). slice_range table p.1.start p.1.end) es

      abbrev AreSame : List (Piece × Span) → List (Piece × Span) → Type 0
      AreSame new old = (keys_of new ≡ keys_of old) × (texts new ≡ texts old)

      put : (b : Bool) (e : Piece × Span) (es rest : List (Piece × Span)) (n : ℕ) → (slice_get (texts es) n ≡ Some (slice_range table span.start span.end) → AreSame rest es) → slice_get (texts (e ∷ es)) (cond (not b) (1 + n) 0) ≡ Some (slice_range table span.start span.end) → AreSame (cond b ((e.0, span) ∷ es) (e ∷ rest)) (e ∷ es)
      put true e es rest n f h = (refl, ap (λ t. t ∷ texts es) (sym (same_Some (slice_range table e.1.start e.1.end) (slice_range table span.start span.end) h)))
      put false e es rest n f h =
          let up : 1 + n ≡ suc n = omega arith in
          let r = f (subst (λ k. slice_get (texts (e ∷ es)) k ≡ Some (slice_range table span.start span.end)) up h) in
          (ap (λ l. e.0 ∷ l) r.0, ap (λ l. slice_range table e.1.start e.1.end ∷ l) r.1)

      -- another place of its text may stand for that of a piece
      stays : (es : List (Piece × Span)) → slice_get (texts es) (position_or_len (is_same piece) (keys_of es)) ≡ Some (slice_range table span.start span.end) → AreSame (insert_entry is_same es piece span) es
      stays [] h = absurd (none-some (slice_range table span.start span.end) h)
      stays (e ∷ es) h = put (is_same piece e.0) e es (insert_entry is_same es piece span) (position_or_len (is_same piece) (keys_of es)) (stays es) h

-- ---- a piece more

made_kept : (old new : List (List ℕ)) (p : Piece) (text : List ℕ) → AreKept old new → IsMade old p text → IsMade new p text
made_kept old new p text kept m = record {
  rest = m.rest;
  has_rest = kept p.rest m.rest m.has_rest;
  whole = m.whole;
  some = m.some;
  few = m.few;
  is = m.is;
}

pub marks_kept : (old new : Numbered) (marks : List Mark) → new.table ≡ old.table → AreKept old.texts new.texts → AreMarks old marks → AreMarks new marks
marks_kept old new marks table kept w i mark at = rw table (kept mark.number (slice_range old.table mark.start mark.end) (w i mark at))

module _ (table : List ℕ) (es : List (Piece × Span)) where
  pub length_texts : length (texts_of table es) ≡ length es + 1
  length_texts = let l = length-map es (λ (p : Piece × Span). slice_range table p.1.start p.1.end) in omega (arith, l)

  length_keys : length (keys_of es) ≡ length es
  length_keys = length-map es (λ (p : Piece × Span). p.0)

  texts_more : (p : Piece × Span) → texts_of table (es ++ p ∷ []) ≡ texts_of table es ++ slice_range table p.1.start p.1.end ∷ []
  texts_more p = ap (λ l. [] ∷ l) (map-append (λ (q : Piece × Span). slice_range table q.1.start q.1.end) es (p ∷ []))

  pub more_kept : (p : Piece × Span) → AreKept (texts_of table es) (texts_of table (es ++ p ∷ []))
  more_kept p n text e = subst (λ l. slice_get l n ≡ Some text) (sym (texts_more p)) (got_left (texts_of table es) (slice_range table p.1.start p.1.end ∷ []) n text e)

  pub last_text : (p : Piece × Span) (n : ℕ) → n ≡ length (texts_of table es) → slice_get (texts_of table (es ++ p ∷ [])) n ≡ Some (slice_range table p.1.start p.1.end)
  last_text p n e = subst (λ l. slice_get l n ≡ Some (slice_range table p.1.start p.1.end)) (sym (texts_more p)) (got_last (texts_of table es) (slice_range table p.1.start p.1.end) n e)

  module _ (w : ArePieces table es) (piece : Piece) (rest : List ℕ) (has_rest : slice_get (texts_of table es) piece.rest ≡ Some rest) (whole : length rest % 64 ≡ 0) (some : 0 < length piece.bytes.now) (few : length piece.bytes.now ≤ 64) where
    -- the text of a piece that is there
    pub found_text : (i : ℕ) → position (is_same piece) (keys_of es) ≡ Some i → slice_get (texts_of table es) (i + 1) ≡ Some (piece.bytes.now ++ rest)
    found_text i e =
        let f = position-Some (is_same piece) (keys_of es) i piece e in
        let low = f.0 in
        let k = length_keys in
        let t = length_texts in
        let p : Piece = get_or (keys_of es) i piece in
        let text : List ℕ = get_or (texts_of table es) (i + 1) [] in
        let at : slice_get (keys_of es) i ≡ Some p = slice_get-get_or (keys_of es) i piece low in
        let text_at : slice_get (texts_of table es) (i + 1) ≡ Some text = slice_get-get_or (texts_of table es) (i + 1) [] (omega (arith, low, k, t)) in
        let m = w.made i p text at text_at in
        let same : rest ≡ m.rest = same_Some rest m.rest (sym has_rest ∙ ap (slice_get (texts_of table es)) (same_rest piece p f.1) ∙ m.has_rest) in
        let joined : p.bytes.now ++ m.rest ≡ piece.bytes.now ++ rest = ap (λ b. b ++ m.rest) (sym (same_bytes piece p f.1)) ∙ ap (λ r. piece.bytes.now ++ r) (sym same) in
        text_at ∙ ap Some (m.is ∙ joined)

    module _ (none : list_any (is_same piece) (keys_of es) ≡ false) where
      not_there : (j : ℕ) → slice_get (texts_of table es) j ≡ Some (piece.bytes.now ++ rest) → ⊥
      not_there zero e =
          let l : 0 ≡ length (piece.bytes.now ++ rest) = ap (λ (t : List ℕ). length t) (same_Some [] (piece.bytes.now ++ rest) e) in
          let a = length-append piece.bytes.now rest in
          omega (arith, l, a, some)
      not_there (suc i) e =
          let k = length_keys in
          let t = length_texts in
          let inside = slice_get_within (texts_of table es) (suc i) (piece.bytes.now ++ rest) e in
          let low : i < length (keys_of es) = omega (arith, k, t, inside) in
          let p : Piece = get_or (keys_of es) i piece in
          let at : slice_get (keys_of es) i ≡ Some p = slice_get-get_or (keys_of es) i piece low in
          let up : suc i ≡ i + 1 = omega arith in
          let m = w.made i p (piece.bytes.now ++ rest) at (subst (λ n. slice_get (texts_of table es) n ≡ Some (piece.bytes.now ++ rest)) up e) in
          let a = length-append piece.bytes.now rest in
          let b = length-append p.bytes.now m.rest in
          let c = ap (λ (t : List ℕ). length t) m.is in
          let d = m.whole in
          let f = m.some in
          let g = m.few in
          let same : length piece.bytes.now ≡ length p.bytes.now = omega (arith, a, b, c, d, f, g, whole, some, few) in
          let parts = append_parts piece.bytes.now p.bytes.now rest m.rest same m.is in
          let number : piece.rest ≡ p.rest = w.different piece.rest p.rest rest has_rest (m.has_rest ∙ ap Some (sym parts.1)) in
          let found : list_any (is_same piece) (keys_of es) ≡ true = list_any_at (is_same piece) (keys_of es) i piece low (same_true piece p parts.0 number) in
          absurd (false-true (sym none ∙ found))

      module _ (span : Span) (is : slice_range table span.start span.end ≡ piece.bytes.now ++ rest) (room : length es + 2 < 2 ^ 32) where
        text_split : (i : ℕ) (text : List ℕ) → slice_get (texts_of table (es ++ (piece, span) ∷ [])) i ≡ Some text → (slice_get (texts_of table es) i ≡ Some text) ⊎ ((i ≡ length (texts_of table es)) × (slice_range table span.start span.end ≡ text))
        text_split i text e = got_split (texts_of table es) (slice_range table span.start span.end) i text (subst (λ l. slice_get l i ≡ Some text) (texts_more (piece, span)) e)

        key_split : (i : ℕ) (p : Piece) → slice_get (keys_of (es ++ (piece, span) ∷ [])) i ≡ Some p → (slice_get (keys_of es) i ≡ Some p) ⊎ ((i ≡ length (keys_of es)) × (piece ≡ p))
        key_split i p e = got_split (keys_of es) piece i p (subst (λ l. slice_get l i ≡ Some p) (map-append (λ (q : Piece × Span). q.0) es ((piece, span) ∷ [])) e)

        all_different : AreDifferent (texts_of table (es ++ (piece, span) ∷ []))
        all_different i j text a b = elim (text_split i text a) [
          | inl x ↦ elim (text_split j text b) [
            | inl y ↦ w.different i j text x y
            | inr y ↦ absurd (not_there i (x ∙ ap Some (sym y.1 ∙ is)))
          ]
          | inr x ↦ elim (text_split j text b) [
            | inl y ↦ absurd (not_there j (y ∙ ap Some (sym x.1 ∙ is)))
            | inr y ↦ x.0 ∙ sym y.0
          ]
        ]

        all_made : (i : ℕ) (p : Piece) (text : List ℕ) → slice_get (keys_of (es ++ (piece, span) ∷ [])) i ≡ Some p → slice_get (texts_of table (es ++ (piece, span) ∷ [])) (i + 1) ≡ Some text → IsMade (texts_of table (es ++ (piece, span) ∷ [])) p text
        all_made i p text a b =
            let k = length_keys in
            let t = length_texts in
            elim (key_split i p a) [
              | inl x ↦ elim (text_split (i + 1) text b) [
                | inl y ↦ made_kept (texts_of table es) (texts_of table (es ++ (piece, span) ∷ [])) p text (more_kept (piece, span)) (w.made i p text x y)
                | inr y ↦ let low = slice_get_within (keys_of es) i p x in absurd (omega (arith, low, k, t, y.0))
              ]
              | inr x ↦ elim (text_split (i + 1) text b) [
                | inl y ↦ let low = slice_get_within (texts_of table es) (i + 1) text y in absurd (omega (arith, low, k, t, x.0))
                | inr y ↦
                    let P : Piece → Type 0 = λ q. IsMade (texts_of table (es ++ (piece, span) ∷ [])) q text in
                    subst P x.1 (record {
                      rest = rest;
                      has_rest = more_kept (piece, span) piece.rest rest has_rest;
                      whole = whole;
                      some = some;
                      few = few;
                      is = sym y.1 ∙ is;
                    })
              ]
            ]

        pub new_pieces : ArePieces table (es ++ (piece, span) ∷ [])
        new_pieces = record {
          short = w.short;
          few = let l = length_push es (piece, span) in omega (arith, l, room);
          different = all_different;
          made = all_made;
        }

-- pieces with the text from one place to another among them, which has the number behind i, and no other text's number changed
pub record Inserted (table : List ℕ) (es : List (Piece × Span)) (start end : ℕ) (new : List (Piece × Span)) (i : ℕ) : Type 0 where
  pub pieces : ArePieces table new
  pub text : slice_get (texts_of table new) (i + 1) ≡ Some (slice_range table start end)
  pub kept : AreKept (texts_of table es) (texts_of table new)

module _ (table : List ℕ) (es : List (Piece × Span)) (w : ArePieces table es) (start mid end : ℕ) (some : start < mid) (few : mid ≤ start + 64) (order : mid ≤ end) (inside : end ≤ length table) (whole : (end - mid) % 64 ≡ 0) (piece : Piece) (bytes : piece.bytes.now ≡ slice_range table start mid) (has : slice_get (texts_of table es) piece.rest ≡ Some (slice_range table mid end)) where
  length_piece : length piece.bytes.now ≡ mid - start
  length_piece = ap (λ (t : List ℕ). length t) bytes ∙ length_range table start mid (omega arith)

  whole_rest : length (slice_range table mid end) % 64 ≡ 0
  whole_rest = ap (λ n. n % 64) (length_range table mid end inside) ∙ whole

  joined : slice_range table start end ≡ piece.bytes.now ++ slice_range table mid end
  joined = range_join table start mid end (omega arith) order inside ∙ ap (λ t. t ++ slice_range table mid end) (sym bytes)

  join_found : (i : ℕ) → position (is_same piece) (keys_of es) ≡ Some i → slice_get (texts_of table es) (i + 1) ≡ Some (slice_range table start end)
  join_found i e =
      let l = length_piece in
      found_text table es w piece (slice_range table mid end) has whole_rest (omega (arith, l)) (omega (arith, l)) i e ∙ ap Some (sym joined)

  join_pieces : list_any (is_same piece) (keys_of es) ≡ false → length es + 2 < 2 ^ 32 → ArePieces table (es ++ (piece, record { start = start; end = end }) ∷ [])
  join_pieces none room =
      let l = length_piece in
      new_pieces table es w piece (slice_range table mid end) has whole_rest (omega (arith, l)) (omega (arith, l)) none (record { start = start; end = end }) joined room

  module _ (room : length es + 2 < 2 ^ 32) where
    last : list_any (is_same piece) (keys_of es) ≡ false → Inserted table es start end (insert_entry is_same es piece (record { start = start; end = end })) (position_or_len (is_same piece) (keys_of es))
    last none =
        let span : Span = record { start = start; end = end } in
        let t = length_texts table es in
        let k = length-map es (λ (p : Piece × Span). p.0) in
        let at = none_before piece (keys_of es) none in
        subst (λ new. Inserted table es start end new (position_or_len (is_same piece) (keys_of es))) (sym (goes_last piece span es none)) (record {
          pieces = join_pieces none room;
          text = last_text table es (piece, span) (position_or_len (is_same piece) (keys_of es) + 1) (omega (arith, t, k, at));
          kept = more_kept table es (piece, span);
        })

    same : list_any (is_same piece) (keys_of es) ≡ true → Inserted table es start end (insert_entry is_same es piece (record { start = start; end = end })) (position_or_len (is_same piece) (keys_of es))
    same one =
        let span : Span = record { start = start; end = end } in
        let i : ℕ = position_or_len (is_same piece) (keys_of es) in
        let new : List (Piece × Span) = insert_entry is_same es piece span in
        let low : i < length (keys_of es) = one_before piece (keys_of es) one in
        let test : nat_lt i (length (keys_of es)) ≡ true = grind (arith, nat_tests) in
        let found : position (is_same piece) (keys_of es) ≡ Some i = ap (λ (b : Bool). cond b (Some i) None) test in
        let text : slice_get (texts_of table es) (i + 1) ≡ Some (slice_range table start end) = join_found i found in
        let up : i + 1 ≡ suc i = omega arith in
        let both = stays piece span table es (subst (λ n. slice_get (texts_of table es) n ≡ Some (slice_range table start end)) up text) in
        let texts : texts_of table new ≡ texts_of table es = ap (λ l. [] ∷ l) both.1 in
        let n = length-map new (λ (p : Piece × Span). p.0) in
        let k = length-map es (λ (p : Piece × Span). p.0) in
        let l = ap (λ (xs : List Piece). length xs) both.0 in
        record {
          pieces = record {
            short = w.short;
            few = omega (arith, w.few, n, k, l);
            different = subst AreDifferent (sym texts) w.different;
            made = λ j p t a b.
                let a' = subst (λ keys. slice_get keys j ≡ Some p) both.0 a in
                let b' = subst (λ ts. slice_get ts (j + 1) ≡ Some t) texts b in
                subst (λ ts. IsMade ts p t) (sym texts) (w.made j p t a' b');
          };
          text = subst (λ ts. slice_get ts (i + 1) ≡ Some (slice_range table start end)) (sym texts) text;
          kept = λ j t e. subst (λ ts. slice_get ts j ≡ Some t) (sym texts) e;
        }

    pub inserted : Inserted table es start end (insert_entry is_same es piece (record { start = start; end = end })) (position_or_len (is_same piece) (keys_of es))
    inserted = by (list_any (is_same piece) (keys_of es)) refl
      where
        by : (b : Bool) → list_any (is_same piece) (keys_of es) ≡ b → Inserted table es start end (insert_entry is_same es piece (record { start = start; end = end })) (position_or_len (is_same piece) (keys_of es))
        by true h = same h
        by false h = last h

pub no_pieces : (table : List ℕ) → length table < 2 ^ 32 → ArePieces table []
no_pieces table short = record {
  short = short;
  few = omega arith;
  different = λ i j text a b. only i j text a b;
  made = λ i p text a b. absurd (none-some p a);
}
  where
    only : (i j : ℕ) (text : List ℕ) → slice_get ([] ∷ []) i ≡ Some text → slice_get ([] ∷ []) j ≡ Some text → i ≡ j
    only zero zero text a b = refl
    only zero (suc j) text a b = absurd (none-some text b)
    only (suc i) j text a b = absurd (none-some text a)
