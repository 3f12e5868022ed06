use Rattle.std.proofs.Common.{◌≡◌, ◌≤◌, ◌<◌, ◌+◌, ◌^◌, ℕ, List, Some, length, slice_get, slice_range, sym, subst, arith}
use Rattle.std.specs.List.{position_or_len}
use Rattle.std.specs.Map.{keys_of}
use Rattle.text_numbers.specs.declared.piece.Piece.{Piece}
use Rattle.text_numbers.specs.declared.piece.Span.{Span}
use Rattle.text_numbers.specs.Texts.{is_same, texts_of, AreKept, Numbered}
use Rattle.text_numbers.proofs.Joined.{inserted, length_texts, Inserted}
use Rattle.text_numbers.proofs.pieces.Pieces.join.Goals as goal

joined : (c : goal.In_ok-at) → Inserted c.self.inside.table.now c.self.inside.places.entries c.args.start c.args.end c.place_of.new.places.entries c.in_ok-at.at
joined c =
    let table : List ℕ = c.self.inside.table.now in
    let es : List (Piece × Span) = c.self.inside.places.entries in
    let Q : Numbered → Type 0 = λ n. slice_get n.texts c.args.number ≡ Some (slice_range n.table c.args.rest c.args.end) in
    let R : Numbered → Type 0 = λ n. c.args.end ≤ length n.table in
    let L : Numbered → Type 0 = λ n. c.len.result ≡ length n.texts in
    let S : ℕ → Type 0 = λ n. slice_get (texts_of table es) n ≡ Some (slice_range table c.args.rest c.args.end) in
    let has = subst S (sym c.piece_of-piece.ensures.rest) (subst Q (sym c.self.view_is) c.requires.number) in
    let inside = subst R (sym c.self.view_is) c.requires.inside in
    let room : length es + 2 < 2 ^ 32 = omega (arith, subst L (sym c.self.view_is) c.len.ensures.len, length_texts table es, c.if-len.false, c.self.invariant.few) in
    let made = inserted table es c.self.invariant c.args.start c.args.rest c.args.end c.requires.some c.requires.few c.requires.order inside c.requires.whole c.piece_of-piece.result c.piece_of-piece.ensures.bytes has room in
    let at : ℕ = position_or_len (is_same c.piece_of-piece.result) (keys_of es) in
    let moved = subst (λ new. Inserted table es c.args.start c.args.end new at) (sym c.in_ok-at.ensures.ok) made in
    subst (λ i. Inserted table es c.args.start c.args.end c.place_of.new.places.entries i) (sym c.in_ok-at.ensures.at) moved

pub invariant_of-self-2 : goal.invariant_of-self-2
invariant_of-self-2 c = (joined c).pieces

pub returns-clause-number : goal.returns-clause-number
returns-clause-number c =
    let P : Numbered → Type 0 = λ n. slice_get (texts_of c.self.inside.table.now c.place_of.new.places.entries) (c.in_ok-at.at + 1) ≡ Some (slice_range n.table c.args.start c.args.end) in
    subst P c.self.view_is (joined c).text

pub returns-clause-kept : goal.returns-clause-kept
returns-clause-kept c =
    let P : Numbered → Type 0 = λ n. AreKept n.texts (texts_of c.self.inside.table.now c.place_of.new.places.entries) in
    subst P c.self.view_is (joined c).kept
