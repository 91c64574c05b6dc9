-- `main` is safe and ends: the text that is written stands in its buffer.
use Rattle.report.proofs.Storing.{left-within, left-counted}
use Rattle.profile.proofs.main.Goals as goal

pub slice_bounds-text-end : goal.slice_bounds-text-end
slice_bounds-text-end c = left-within _ _ c.put_profile-length.ensures

pub slice_bounds-write_all-end : goal.slice_bounds-write_all-end
slice_bounds-write_all-end c = left-counted _ _ c.put_profile-length.ensures
