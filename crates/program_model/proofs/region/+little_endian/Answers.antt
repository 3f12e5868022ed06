-- At most seven bytes stand behind the first.
use Rattle.std.proofs.Common.{ℕ, ◌-◌, ◌^◌, ◌<◌, ◌≤◌, List, length, take, drop, arith, length-drop}
use Rattle.std.proofs.lemmas.List.{length-take}
use Rattle.program_model.proofs.Words.{seven_bytes}
use Rattle.program_model.proofs.region.+little_endian.Goals as goal

rest_small : (bytes : List ℕ) (number : ℕ) → length bytes ≤ 8 → number < 256 ^ length (take (length bytes - 1) (drop 1 bytes)) → number < 2 ^ 56
rest_small bytes number short below =
    seven_bytes (length (take (length bytes - 1) (drop 1 bytes))) number (omega (arith, length-take (length bytes - 1) (drop 1 bytes), length-drop 1 bytes)) below

pub overflow_mul-result : goal.overflow_mul-result
overflow_mul-result t c = omega (arith, rest_small c.args.bytes.now c.little_endian.result c.requires c.little_endian.ensures.bound)

pub overflow_add-result : goal.overflow_add-result
overflow_add-result t c = omega (arith, rest_small c.args.bytes.now c.little_endian.result c.requires c.little_endian.ensures.bound, c.type_inv.bytes 0, c.from.ensures)
