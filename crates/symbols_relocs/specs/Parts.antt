-- Parts of functions: a compiler moves the seldom code of a function P into a function of its own, `P.cold` or `P.cold.N`.
use Rattle.std.specs.Prelude.{ℕ, ◌-◌, ◌==◌, ◌&&◌, nat_le, Bool, List, Option, Some, None, option_and_then, option_map, unwrap_or, length, take, drop, reverse, bytes_eq, codes, if◌then◌else◌}
use Rattle.std.specs.List.{take_while}
use Rattle.std.specs.Option.{option_or}
use Rattle.ot_base.specs.declared.place.Place.{Place}
use Rattle.elf_objects.specs.Elf.{Elf}
use Rattle.elf_objects.specs.Contents.{symbol_at}
use Rattle.elf_objects.specs.Below.{least_below}
use Rattle.symbols_relocs.specs.Functions.{function_at, is_function, start_of, starts_at}

-- what stands before an ending
abbrev pub before_ending : List ℕ → List ℕ → Option (List ℕ)
before_ending ending name =
    let at = length name - length ending in
    if bytes_eq (drop at name) ending then Some (take at name) else None

abbrev pub is_digit : ℕ → Bool
is_digit c = nat_le 48 c && nat_le c 57

-- how many digits it ends with
abbrev pub digits_at_end : List ℕ → ℕ
digits_at_end name = length (take_while is_digit (reverse name))

abbrev pub without_digits : List ℕ → List ℕ
without_digits name = take (length name - digits_at_end name) name

-- the P of a name `P.cold.` with one or more digits behind it
abbrev pub numbered_part : List ℕ → Option (List ℕ)
numbered_part name = if digits_at_end name == 0 then None else before_ending (codes ".cold.") (without_digits name)

-- the P of a name `P.cold`, or `P.cold.` and one or more digits
abbrev pub part_name : List ℕ → Option (List ℕ)
part_name name = option_or (before_ending (codes ".cold") name) (numbered_part name)

-- the first symbol of a function with a name
abbrev pub first_named : Elf → List ℕ → Option ℕ
first_named o name = least_below (λ k. is_function o k && bytes_eq (symbol_at o k).name name) (length o.symbols)

-- the function that has a symbol with a name, where several have one that of the lowest such symbol
abbrev pub function_named : Elf → List ℕ → Option ℕ
function_named o name = option_and_then (λ k. starts_at o (start_of o k)) (first_named o name)

-- a function, where it is another than the one with this symbol
abbrev pub other_than : ℕ → ℕ → Option ℕ
other_than sym f = if f == sym then None else Some f

-- the parent of a part: the function with the name P, where the function's own name, that of its lowest symbol, is the name
-- of a part of P. A parent is another function: where the one that has a symbol P is itself the one named `P.cold`, it is no part
abbrev pub parent_of : Elf → ℕ → Option ℕ
parent_of o sym = option_and_then (other_than sym) (option_and_then (function_named o) (part_name (symbol_at o sym).name))

-- the owner of a function: its parent, or itself where it has none
abbrev pub owner_of : Elf → ℕ → ℕ
owner_of o sym = unwrap_or (parent_of o sym) sym

-- the owner of a place: that of its function
abbrev pub owner_at : Elf → Place → Option ℕ
owner_at o place = option_map (owner_of o) (function_at o place)
