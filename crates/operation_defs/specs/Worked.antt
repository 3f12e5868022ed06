-- What a program makes of some decoded operations.
use Rattle.std.specs.Prelude.{◌≡◌, Bool, true, false, pos}
use Rattle.operation_defs.specs.declared.op.Op.TheVariants.{Plain, LeaBpSp, LeaBpRoom, SpOther, BpOther, Call, Hop, Jmp, Iret, IretNext, Switch}
use Rattle.operation_defs.specs.Made.{Around, is_decoded, made}

-- in code of no function, and in a function with its code behind the instruction
abbrev pub alone : Around
alone = record { intra_call = false; within = false; hinted = true; makes_room = false; returning = false; loads_stack = false }

abbrev pub in_function : Around
in_function = record { intra_call = false; within = true; hinted = false; makes_room = false; returning = false; loads_stack = false }

pub record HasWorkedMade : Type 0 where
  -- a call is one within its function where its place is listed
  pub hop : made (record in_function { intra_call = true }) (Call (pos 1)) ≡ Hop
  pub call : made in_function (Call (pos 1)) ≡ Call (pos 1)
  -- a call of code that returns for its caller is a jump, also where its place is listed
  pub returning_call : made (record in_function { returning = true }) (Call (pos 1)) ≡ Jmp (pos 1) true
  pub returning_first : made (record in_function { intra_call = true; returning = true }) (Call (pos 1)) ≡ Jmp (pos 1) true
  -- rbp is set as the base over room in a function that makes room
  pub over_room : made (record in_function { makes_room = true }) (LeaBpSp (pos 8)) ≡ LeaBpRoom (pos 8)
  pub without_room : made in_function (LeaBpSp (pos 8)) ≡ LeaBpSp (pos 8)
  -- an iretq goes on in its function, and nowhere else
  pub iret_goes_on : made in_function Iret ≡ IretNext
  pub iret_leaves : made alone Iret ≡ Iret
  -- a system call comes back in its function where hints tell the stack again
  pub syscall_comes_back : made (record in_function { hinted = true }) Switch ≡ SpOther
  pub syscall_leaves : made in_function Switch ≡ Switch
  pub syscall_leaves_alone : made alone Switch ≡ Switch
  -- where tasks are switched, a load of rsp leaves rsp as it is; a system call there stays what it is
  pub loads_stack : made (record in_function { loads_stack = true }) SpOther ≡ BpOther
  pub other_stack : made in_function SpOther ≡ SpOther
  pub syscall_in_switch : made (record in_function { hinted = true; loads_stack = true }) Switch ≡ SpOther
  -- what no decoding gives
  pub hop_isnt_decoded : is_decoded Hop ≡ false
  pub room_isnt_decoded : is_decoded (LeaBpRoom (pos 0)) ≡ false
  pub iret_next_isnt_decoded : is_decoded IretNext ≡ false
  pub plain_is_decoded : is_decoded Plain ≡ true
