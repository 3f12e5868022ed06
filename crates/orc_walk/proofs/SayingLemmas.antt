-- What was read, with one saying more, and with one line more.
use Rattle.std.proofs.Common.{◌≡◌, ℕ, ◌^◌, Bool, true, false, cond, List, [], ◌∷◌, ◌++◌, Option, Some, None, Result, Ok, Err, refl, sym, ◌∙◌, ap, subst, eqb, ltb, length}
use Rattle.std.specs.Prelude.{IsPermutation, filter_map, is_some, not}
use Rattle.std.specs.List.{cons_option, list_any}
use Rattle.std.specs.Option.{option_to_list}
use Rattle.std.specs.Result.{result_ok}
use Rattle.std.proofs.lemmas.List.Elements.{filter_map-append}
use Rattle.std.proofs.lemmas.List.Sorted.{IsPermutation-push_more, list_any-IsPermutation}
use Rattle.table_defs.specs.declared.frame.Regs.{Regs}
use Rattle.orc_walk.specs.Memory.{Piece, pieces_of, end_of}
use Rattle.orc_walk.specs.declared.image_fault.ImageWhy.{ImageWhy}
use Rattle.orc_walk.specs.declared.image_fault.ImageWhy.TheVariants.{Repeated, Wraps, Overlaps}
use Rattle.orc_walk.specs.declared.image_fault.LineFault.{LineFault}
use Rattle.orc_walk.specs.declared.image_fault.LineFault.TheVariants.{Why, NoMemory}
use Rattle.orc_walk.specs.declared.reading.Reading.{Reading}
use Rattle.orc_walk.specs.Statements.{Said, nothing, registers, place, memory, said}
use Rattle.orc_walk.specs.ImageFile.{registers_of, place_of, piece_of, registers_in, pieces_in, sayings, overlap, piece_fault, saying_fault, fault_behind, line_fault}
use Rattle.orc_walk.specs.Reading.{Holds, Adds, ReadsLine, said_by}
use Rattle.orc_walk.specs.declared.statements.Statement.{Statement}
use Rattle.orc_walk.specs.declared.statements.Statement.TheVariants.{Nothing}

append_nil : {X : Type 0} (xs : List X) → xs ++ [] ≡ xs
append_nil [] = refl
append_nil (x ∷ xs) = ap (λ ys. x ∷ ys) (append_nil xs)

skipped : {X Y : Type 0} (f : X → Option Y) (xs : List X) (x : X) → f x ≡ None → filter_map f (xs ++ x ∷ []) ≡ filter_map f xs
skipped f xs x none = filter_map-append f xs (x ∷ []) ∙ ap (λ o. filter_map f xs ++ cons_option o []) none ∙ append_nil (filter_map f xs)

kept : {X Y : Type 0} (f : X → Option Y) (xs : List X) (x : X) (y : Y) → f x ≡ Some y → filter_map f (xs ++ x ∷ []) ≡ filter_map f xs ++ y ∷ []
kept f xs x y some = filter_map-append f xs (x ∷ []) ∙ ap (λ o. filter_map f xs ++ cons_option o []) some

-- nothing more
pub holds_nothing : (all : List Said) (r : Reading) → Holds all r → Holds (all ++ nothing ∷ []) r
holds_nothing all r is = record {
  regs = skipped registers_of all nothing refl ∙ is.regs;
  places = is.places ∙ sym (skipped place_of all nothing refl);
  pieces = subst (λ ps. IsPermutation ps (pieces_of r.ranges.entries)) (sym (skipped piece_of all nothing refl)) is.pieces;
}

unsaid : (o : Option Regs) → is_some o ≡ false → option_to_list o ≡ []
unsaid None h = refl
unsaid (Some regs) h = absurd (let e : true ≡ false = h in cc)

said_once : (o : Option Regs) (xs : List Regs) → is_some o ≡ true → xs ≡ option_to_list o → eqb (length xs) 0 ≡ false
said_once None xs h is = absurd (let e : false ≡ true = h in cc)
said_once (Some regs) xs h is = ap (λ xs. eqb (length xs) 0) is

-- the registers
pub registers_fit : (all : List Said) (r : Reading) (x : Regs) → Holds all r → is_some r.regs ≡ false → saying_fault all (registers x) ≡ None
registers_fit all r x is none = ap (λ xs. cond (eqb (length xs) 0) None (Some Repeated)) (is.regs ∙ unsaid r.regs none)

pub registers_again : (all : List Said) (r : Reading) (x : Regs) → Holds all r → is_some r.regs ≡ true → saying_fault all (registers x) ≡ Some Repeated
registers_again all r x is some = ap (λ b. cond b None (Some Repeated)) (said_once r.regs (registers_in all) some is.regs)

pub holds_registers : (all : List Said) (r : Reading) (x : Regs) → Holds all r → is_some r.regs ≡ false → Holds (all ++ registers x ∷ []) (record r { regs = Some x })
holds_registers all r x is none = record {
  regs = kept registers_of all (registers x) x refl ∙ ap (λ xs. xs ++ x ∷ []) (is.regs ∙ unsaid r.regs none);
  places = is.places ∙ sym (skipped place_of all (registers x) refl);
  pieces = subst (λ ps. IsPermutation ps (pieces_of r.ranges.entries)) (sym (skipped piece_of all (registers x) refl)) is.pieces;
}

-- a place
pub place_fits : (all : List Said) (r : Reading) (section base : ℕ) (again : Bool) → Holds all r → list_any (λ other. eqb other.0 section) r.places.items ≡ again → saying_fault all (place section base) ≡ cond again (Some Repeated) None
place_fits all r section base again is known = ap (λ ps. cond (list_any (λ other. eqb other.0 section) ps) (Some Repeated) None) (sym is.places) ∙ ap (λ b. cond b (Some Repeated) None) known

pub holds_place : (all : List Said) (r new : Reading) (section base : ℕ) → Holds all r → new.regs ≡ r.regs → new.places.items ≡ r.places.items ++ (section, base) ∷ [] → new.ranges ≡ r.ranges → Holds (all ++ place section base ∷ []) new
holds_place all r new section base is regs places ranges = record {
  regs = skipped registers_of all (place section base) refl ∙ is.regs ∙ ap option_to_list (sym regs);
  places = places ∙ ap (λ ps. ps ++ (section, base) ∷ []) is.places ∙ sym (kept place_of all (place section base) (section, base) refl);
  pieces = subst (λ ps. IsPermutation ps (pieces_of new.ranges.entries)) (sym (skipped piece_of all (place section base) refl)) (subst (λ m. IsPermutation (pieces_in all) (pieces_of m.entries)) (sym ranges) is.pieces);
}

-- a piece of memory
pub memory_fault : (all : List Said) (r : Reading) (x : Piece) → Holds all r → saying_fault all (memory x) ≡ piece_fault (pieces_of r.ranges.entries) x
memory_fault all r x is = ap (λ b. cond (ltb (2 ^ 64) (end_of x)) (Some Wraps) (cond b (Some Overlaps) None)) (list_any-IsPermutation (λ p. overlap p x) (pieces_in all) (pieces_of r.ranges.entries) is.pieces)

pub holds_memory : (all : List Said) (r new : Reading) (x : Piece) → Holds all r → new.regs ≡ r.regs → new.places ≡ r.places → IsPermutation (x ∷ pieces_of r.ranges.entries) (pieces_of new.ranges.entries) → Holds (all ++ memory x ∷ []) new
holds_memory all r new x is regs places pieces = record {
  regs = skipped registers_of all (memory x) refl ∙ is.regs ∙ ap option_to_list (sym regs);
  places = ap (λ v. v.items) places ∙ is.places ∙ sym (skipped place_of all (memory x) refl);
  pieces = subst (λ ps. IsPermutation ps (pieces_of new.ranges.entries)) (sym (kept piece_of all (memory x) x refl)) (IsPermutation-push_more (pieces_in all) (pieces_of r.ranges.entries) (pieces_of new.ranges.entries) x is.pieces pieces);
}

-- a line that says something that is added
pub reads : (earlier : List (List ℕ)) (line : List ℕ) (saying : Said) (new : Reading) (result : Result (Unit {0}) LineFault) → said line ≡ Ok saying → Adds (sayings earlier) saying new result → ReadsLine earlier line new result
reads earlier line saying new (Ok done) is adds = (ap (fault_behind (sayings earlier)) is ∙ adds.0, subst (λ all. Holds all new) (sym (kept (λ line. result_ok (said line)) earlier line saying (ap result_ok is))) adds.1)
reads earlier line saying new (Err (Why why)) is adds = ap (fault_behind (sayings earlier)) is ∙ adds
reads earlier line saying new (Err NoMemory) is adds = tt

-- a line that can't be read
pub unread : (earlier : List (List ℕ)) (line : List ℕ) (why : ImageWhy) → said line ≡ Err why → line_fault earlier line ≡ Some why
unread earlier line why is = ap (fault_behind (sayings earlier)) is

pub not_again : (is_new found : Bool) → is_new ≡ not found → is_new ≡ true → found ≡ false
not_again is_new true is h = absurd (let e : false ≡ true = sym is ∙ h in cc)
not_again is_new false is h = refl

-- a statement that says nothing
pub adds_nothing : (earlier : List Said) (r : Reading) (statement : Statement) → Holds earlier r → statement ≡ Nothing → (saying_fault earlier (said_by statement) ≡ None) × Holds (earlier ++ said_by statement ∷ []) r
adds_nothing earlier r statement is none = subst (λ s. (saying_fault earlier (said_by s) ≡ None) × Holds (earlier ++ said_by s ∷ []) r) (sym none) (refl, holds_nothing earlier r is)
