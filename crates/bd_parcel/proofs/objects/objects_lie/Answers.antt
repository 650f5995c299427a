use Rattle.std.proofs.Common.{sym}
use Rattle.bd_parcel.proofs.Walks.{stand, stand_only, stand_sound}
use Rattle.bd_parcel.proofs.objects.objects_lie.Goals as goal

pub returns-clause-read : goal.returns-clause-read
returns-clause-read c = λ bytes offsets h none. stand bytes offsets 0 0 h none

pub returns-clause-only : goal.returns-clause-only
returns-clause-only c = λ bytes offsets objects parcel. (stand_sound bytes offsets 0 0 objects parcel, sym (stand_only bytes offsets 0 objects parcel))
