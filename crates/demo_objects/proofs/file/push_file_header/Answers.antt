use Rattle.std.proofs.Common.{◌≡◌, ℕ, List, ◌++◌, refl, ap, ◌∙◌}
use Rattle.std.proofs.lemmas.List.{append_assoc}
use Rattle.std.proofs.lemmas.Result.{IfOk-equal}
use Rattle.elf_write.specs.Layout.{encoded}
use Rattle.demo_objects.proofs.file.push_file_header.Goals as goal

five : (o0 o1 o2 o3 o4 p1 p2 p3 p4 p5 : List ℕ) → o1 ≡ o0 ++ p1 → o2 ≡ o1 ++ p2 → o3 ≡ o2 ++ p3 → o4 ≡ o3 ++ p4
    → o4 ++ p5 ≡ o0 ++ (p1 ++ p2 ++ p3 ++ p4 ++ p5)
five o0 o1 o2 o3 o4 p1 p2 p3 p4 p5 h1 h2 h3 h4 = rw (h4, h3, h2, h1) (simp append_assoc refl)

pub returns : goal.returns
unfolding encoded
returns c =
    IfOk-equal c.push_u16-2.result _ _ _ c.push_u16-2.ensures
    (
    ap (λ (n : ℕ). c.push_u16.new.out.items ++ encoded 2 n) c.short_index.ensures
    ∙ five c.args.out.now.items c.push_bytes.new.out.items c.push_u64.new.out.items c.push_bytes-2.new.out.items c.push_u16.new.out.items _ _ _ _ _
    c.in_ok-push_bytes.ensures c.in_ok-push_u64.ensures c.in_ok-push_bytes-2.ensures
    (c.in_ok-push_u16.ensures ∙ ap (λ (n : ℕ). c.push_bytes-2.new.out.items ++ encoded 2 n) c.short_count.ensures)
    )
