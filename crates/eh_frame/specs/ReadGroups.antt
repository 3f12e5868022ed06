-- What the code reads of a number in groups of seven bits.
use Rattle.std.specs.Prelude.{ℕ, ◌+◌, ◌-◌, ◌*◌, Bool, true, false, List, [], ◌∷◌, nat_lt, if◌then◌else◌, Option, Some, None, take}
use Rattle.eh_frame.specs.declared.groups.Number.{Number}

abbrev pub last_group : ℕ → ℕ → Number
last_group limit byte =
    if nat_lt byte limit
    then record { turned = false; bits = byte; len = 1 }
    else record { turned = true; bits = 127 - byte; len = 1 }

abbrev pub low_bits : Bool → ℕ → ℕ
low_bits turned byte = if turned then 255 - byte else byte - 128

abbrev pub one_more_group : ℕ → ℕ → Number → Option Number
one_more_group limit byte high =
    let bits = low_bits high.turned byte + 128 * high.bits in
    if nat_lt bits limit then None else Some (record { turned = high.turned; bits = bits; len = high.len + 1 })

abbrev pub more_groups : ℕ → ℕ → Option Number → Option Number
more_groups limit byte None = None
more_groups limit byte (Some high) = one_more_group limit byte high

-- the number in groups at the beginning of some bytes
unfoldable pub read_groups : ℕ → List ℕ → Option Number
read_groups limit [] = None
read_groups limit (byte ∷ bytes) =
    if nat_lt byte 128 then Some (last_group limit byte) else more_groups limit byte (read_groups limit bytes)

-- one of at most 32 bits takes at most five bytes
abbrev pub read_number : List ℕ → ℕ → Option Number
read_number bytes limit = read_groups limit (take 5 bytes)
