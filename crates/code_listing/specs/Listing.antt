-- The listing of a program: a heading for each run of points of one function, and a line for each point.
use Rattle.std.specs.Prelude.{◌≡◌, ℕ, zero, suc, ◌==◌, Bool, true, false, not, List, [], ◌++◌, Option, Some, None, bytes_eq, codes, if◌then◌else◌}
use Rattle.std.specs.List.{flat_map}
use Rattle.std.specs.Fmt.{decimal}
use Rattle.ot_base.specs.declared.place.Place.{Place}
use Rattle.elf_objects.specs.Elf.{Elf}
use Rattle.elf_objects.specs.Contents.{symbol_at}
use Rattle.state_defs.specs.declared.state.State.{State}
use Rattle.machine_defs.specs.Program.{Program, IsPoint, below}
use Rattle.machine_defs.specs.Kept.{edges_of}
use Rattle.code_listing.specs.States.{kept_words}
use Rattle.code_listing.specs.Operations.{operation_words}
use Rattle.code_listing.specs.Points.{edges_text, hint_text, marks_text, place_words, symbol_words, target_text, variant_words}

-- ---- headings

-- the function that owns a function's code, where it is another one
abbrev pub part_words : Elf → ℕ → Option ℕ → List ℕ
part_words o function None = []
part_words o function (Some owner) = if owner == function then [] else codes " (part of " ++ symbol_words o owner ++ codes ")"

abbrev pub unchecked_words : Bool → List ℕ
unchecked_words true = codes " (not checked)"
unchecked_words false = []

-- the heading of code of a function that has this owner
unfoldable pub heading_of : Elf → Option ℕ → Option ℕ → Bool → List ℕ
heading_of o None owner unchecked = codes "no function:\n"
heading_of o (Some function) owner unchecked = symbol_words o function ++ part_words o function owner ++ unchecked_words unchecked ++ codes ":\n"

-- whether two points have the same function, or none
abbrev pub is_same_function : Option ℕ → Option ℕ → Bool
is_same_function None None = true
is_same_function None (Some other) = false
is_same_function (Some one) None = false
is_same_function (Some one) (Some other) = one == other

-- whether a point is the first, or of another function than the point before
abbrev pub begins_function : Program → ℕ → Bool
begins_function p zero = true
begins_function p (suc before) = not (is_same_function (p.function before) (p.function (suc before)))

abbrev pub heading_text : Elf → Program → ℕ → List ℕ
heading_text o p q = if begins_function p q then heading_of o (p.function q) (p.owner q) (p.unchecked q) else []

-- ---- lines

-- of a point of a replacement, which one it is of, and where it runs
abbrev pub running_words : Elf → ℕ → Place → List ℕ
running_words o variant address = if variant == 0 then [] else variant_words variant ++ codes " at " ++ place_words o address

-- where a point's bytes stand, where it runs, how many bytes it has, and what it does
unfoldable pub insn_text : Elf → Program → ℕ → List ℕ
insn_text o p q =
    codes "  " ++ place_words o (p.place q)
    ++ running_words o (p.variant q) (p.address q)
    ++ codes " length " ++ decimal (p.insn q).len
    ++ codes ": " ++ operation_words (p.insn q).op

-- the end of a line: whether execution never passes the point
abbrev pub end_words : Bool → List ℕ
end_words true = codes "; dead end\n"
end_words false = codes "\n"

-- the line of a point: its instruction and where that goes, the state that is kept before it, its other edges, and what else is to be said
unfoldable pub line_text : Elf → Program → (ℕ → Option State) → ℕ → List ℕ
line_text o p states q =
    insn_text o p q
    ++ target_text o p (p.role q)
    ++ codes "; " ++ kept_words (states q)
    ++ edges_text o p (edges_of p q)
    ++ marks_text (p.marks q)
    ++ hint_text o p (p.hint q) (p.save_of q)
    ++ end_words (p.dead_end q)

-- ---- the whole

-- whether code of this function is listed: all code, or that of the functions of this name
abbrev pub is_listed : Elf → Option (List ℕ) → Option ℕ → Bool
is_listed o None function = true
is_listed o (Some name) None = false
is_listed o (Some name) (Some function) = bytes_eq (symbol_at o function).name name

-- what is listed of a point
unfoldable pub part_text : Elf → Program → (ℕ → Option State) → Option (List ℕ) → ℕ → List ℕ
part_text o p states name q = if is_listed o name (p.function q) then heading_text o p q ++ line_text o p states q else []

-- the listing of a program under its kept states, of all code or of the functions of one name: its points by their numbers
abbrev pub listing_text : Elf → Program → (ℕ → Option State) → Option (List ℕ) → List ℕ
listing_text o p states name = flat_map (part_text o p states name) (below p.count)

-- no point is of a function of this name
abbrev pub HasNoFunction : Elf → Program → List ℕ → Type 0
HasNoFunction o p name = (q : ℕ) → IsPoint p q → is_listed o (Some name) (p.function q) ≡ false
