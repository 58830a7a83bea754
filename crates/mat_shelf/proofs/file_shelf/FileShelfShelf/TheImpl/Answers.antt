use Rattle.std.proofs.Common.{refl}
use Rattle.std.specs.Prelude.{Result, Ok, Err, OnOk, IfOk}
use Rattle.mat_shelf.proofs.file_shelf.FileShelfShelf.TheImpl.Goals as goal

-- what always holds, holds on success
on_ok : {X E : Type 0} {P : Type 0} (r : Result X E) → P → OnOk r P
on_ok (Ok _) p = p
on_ok (Err _) p = tt

if_ok : {X E : Type 0} {P : X → Type 0} (r : Result X E) → ((x : X) → P x) → IfOk r P
if_ok (Ok x) p = p x
if_ok (Err _) p = tt

pub open-tells : goal.open-tells
open-tells g c = record {
  held = λ _. refl;
  grows = λ _. c.ensures.grows;
  reading = on_ok c.result tt;
  left = on_ok c.result tt;
  cause = c.ensures.cause;
}

pub read-tells : goal.read-tells
read-tells g c = record {
  held = λ _. refl;
  grows = λ _. c.ensures.grows;
  reading = tt;
  bound = c.ensures.bound;
  bytes = if_ok c.result (λ _. tt);
  cause = c.ensures.cause;
}
