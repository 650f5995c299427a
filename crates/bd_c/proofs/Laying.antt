-- What is told of a parcel that is refused.
use Rattle.std.proofs.Common.{◌≡◌, refl}
use Rattle.std.specs.Prelude.{Option, Some, None}
use Rattle.bd_layout.specs.Plans.{Plan}
use Rattle.bd_c.specs.Layouts.{Given, IsLaidOut, refused_told}

pub is_refused : (o : Option Plan) (old : Given) → None ≡ o → IsLaidOut o old (record old { told = refused_told })
is_refused None old none = refl
is_refused (Some p) old none = cc
