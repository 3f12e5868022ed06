use Rattle.std.proofs.Common.{◌≡◌, ℕ, ◌+◌, ◌*◌, ◌++◌, List, length, refl, ◌∙◌, ap, arith, length-append}
use Rattle.std.proofs.lemmas.Bool.Decides.{nat_tests}
use Rattle.std.proofs.lemmas.List.{append_assoc}
use Rattle.elf_write.specs.Layout.{encoded, long_count}
use Rattle.elf_write.proofs.Lists.{length-encoded, pushed_two}
use Rattle.elf_write.proofs.input.push_old_headers.Goals as goal
use Rattle.elf_write.proofs.input.push_old_headers.Goals.{then-count-lt-MANY, else-count-lt-MANY}

pub returns : goal.returns
returns c =
    let long : c.if-count-lt-MANY.long ≡ long_count c.args.count = elim c.if-count-lt-MANY.branch [
      | then-count-lt-MANY w ↦ grind (arith, nat_tests)
      | else-count-lt-MANY w ↦ grind (arith, nat_tests)
    ] in
    let place : ℕ = 64 * c.args.input.now.name_table + 24 in
    let headers : List ℕ = c.args.input.now.headers.now in
    let number : List ℕ = encoded 8 (long_count c.args.count) in
    let offset : List ℕ = encoded 8 c.args.names_at in
    let size : List ℕ = encoded 8 c.args.names_size in
    let long_8 : 32 + length number ≡ 40 = omega (arith, length-encoded 8 (long_count c.args.count)) in
    let long_16 : place + length (offset ++ size) ≡ place + 16 =
    omega (arith, length-append offset size, length-encoded 8 c.args.names_at, length-encoded 8 c.args.names_size) in
    let first : c.push_u64.new.out.items ≡ c.push_part.new.out.items ++ number =
    c.in_ok-push_u64.ensures ∙ ap (λ (n : ℕ). c.push_part.new.out.items ++ encoded 8 n) long in
    let second : c.push_u64-3.new.out.items ≡ c.push_part-2.new.out.items ++ (offset ++ size) =
    c.in_ok-push_u64-3.ensures ∙ ap (λ (p : List ℕ). p ++ size) c.in_ok-push_u64-2.ensures
    ∙ append_assoc c.push_part-2.new.out.items offset size in
    pushed_two 32 40 place (place + 16) (length headers) number (offset ++ size) headers _ _ _ _ _ _
    long_8 (omega arith) long_16 (omega arith) refl
    c.in_ok-push_part.ensures first c.in_ok-push_part-2.ensures second c.in_ok-push_part-3.ensures
