-- The texts of points: their places, and where control goes from them.
use Rattle.std.specs.Prelude.{◌≡◌, ℕ, ◌==◌, Bool, true, false, List, [], ◌++◌, Option, Some, None, codes, if◌then◌else◌}
use Rattle.std.specs.List.{flat_map}
use Rattle.std.specs.Fmt.{decimal}
use Rattle.ot_base.specs.declared.place.Place.{Place}
use Rattle.ot_base.specs.PlaceText.{escaped, place_text}
use Rattle.elf_objects.specs.Elf.{Elf}
use Rattle.elf_objects.specs.Contents.{section_at, symbol_at}
use Rattle.machine_defs.specs.declared.flow.Edge.{Edge}
use Rattle.machine_defs.specs.declared.flow.EdgeKind.{EdgeKind}
use Rattle.machine_defs.specs.declared.flow.EdgeKind.TheVariants.{Next, Taken, Fixup, Table, Sibling}
use Rattle.machine_defs.specs.declared.flow.Role.{Role}
use Rattle.machine_defs.specs.declared.flow.Role.TheVariants.{Plain, CallIn, CallEither, CallOut, CallAny, Return, JumpOut, JumpAny, Switch}
use Rattle.machine_defs.specs.declared.flow.Marks.{Marks}
use Rattle.state_defs.specs.declared.state.HintState.{HintState}
use Rattle.state_defs.specs.declared.state.HintState.TheVariants.{Set, Save, Restore}
use Rattle.machine_defs.specs.Program.{Program, IsPoint}
use Rattle.code_listing.specs.States.{state_words}

-- a place by its section's name, and a symbol by its own
abbrev pub place_words : Elf → Place → List ℕ
place_words o place = place_text (section_at o place.sec).name place.off

abbrev pub symbol_words : Elf → ℕ → List ℕ
symbol_words o sym = escaped (symbol_at o sym).name

-- which replacement a point is of, where it is of one
abbrev pub variant_words : ℕ → List ℕ
variant_words variant = if variant == 0 then [] else codes " variant " ++ decimal variant

-- a point: where its bytes stand, and which replacement it is of
unfoldable pub point_text : Elf → Program → ℕ → List ℕ
point_text o p q = place_words o (p.place q) ++ variant_words (p.variant q)

-- where a call, a return or a jump out of the function goes
unfoldable pub target_text : Elf → Program → Role → List ℕ
target_text o p Plain = []
target_text o p (CallIn entry) = codes " to " ++ place_words o (p.place entry)
target_text o p (CallEither entry sym) = codes " out to " ++ symbol_words o sym ++ codes " or to " ++ place_words o (p.place entry)
target_text o p (CallOut sym) = codes " out to " ++ symbol_words o sym
target_text o p CallAny = codes " to anywhere"
target_text o p Return = codes " to the caller"
target_text o p (JumpOut sym) = codes " out to " ++ symbol_words o sym
target_text o p JumpAny = codes " to anywhere"
target_text o p Switch = []

-- how an edge goes, and to which point; nothing of control that goes on behind a point
abbrev pub edge_by : EdgeKind → List ℕ → List ℕ
edge_by Next target = []
edge_by Taken target = codes "; taken " ++ target
edge_by Fixup target = codes "; fixup " ++ target
edge_by Table target = codes "; table " ++ target
edge_by Sibling target = codes "; sibling " ++ target

unfoldable pub edge_text : Elf → Program → Edge → List ℕ
edge_text o p e = edge_by e.kind (point_text o p e.to)

-- the edges of a point, in their order
abbrev pub edges_text : Elf → Program → List Edge → List ℕ
edges_text o p edges = flat_map (edge_text o p) edges

-- words that are told where something holds
abbrev pub told_if : Bool → List ℕ → List ℕ
told_if true words = codes "; " ++ words
told_if false words = []

-- what is wrong with where a point goes
unfoldable pub marks_text : Marks → List ℕ
marks_text marks =
    told_if marks.bad (codes "bad target")
    ++ told_if marks.past_end (codes "past the end")
    ++ told_if marks.into_site (codes "into a site")
    ++ told_if marks.into_function (codes "into a function")
    ++ told_if marks.relocated (codes "relocated")

-- the SAVE that a RESTORE means, where it means one
abbrev pub save_text : Elf → Program → Option ℕ → List ℕ
save_text o p None = []
save_text o p (Some save) = codes " of " ++ point_text o p save

-- the hint at a point
unfoldable pub hint_text : Elf → Program → Option HintState → Option ℕ → List ℕ
hint_text o p None save = []
hint_text o p (Some (Set s)) save = codes "; hint " ++ state_words s
hint_text o p (Some Save) save = codes "; hint save"
hint_text o p (Some Restore) save = codes "; hint restore" ++ save_text o p save

-- What roles and hints name by number are points of the program.
pub record NamesPoints (p : Program) : Type 0 where
  pub entries : (q entry : ℕ) → IsPoint p q → p.role q ≡ CallIn entry → IsPoint p entry
  pub weak_entries : (q entry sym : ℕ) → IsPoint p q → p.role q ≡ CallEither entry sym → IsPoint p entry
  pub saves : (q save : ℕ) → IsPoint p q → p.save_of q ≡ Some save → IsPoint p save
