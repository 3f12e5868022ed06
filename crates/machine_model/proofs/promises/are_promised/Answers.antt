use Rattle.machine_model.proofs.promises.are_promised.Goals as goal

pub returns : goal.returns
returns c = record {
  branches = λ p allowed options homes s. (λ h. h, λ h. h);
  access = λ p allowed homes s. (λ k. (k.calls, k.tail_calls, k.stays_off, k.leaves), λ h. record { calls = h.0; tail_calls = h.1; stays_off = h.2; leaves = h.3 });
}
