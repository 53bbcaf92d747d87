-- The primes that are served in Montgomery's form.
use Rattle.std.specs.Prelude.{refl}
use Rattle.std.proofs.Common.{lit<}
use Rattle.montgomery.specs.Form.{Form}

pub form_2013265921 : Form 2013265921 2013265919 1172168163 943718400
form_2013265921 = record { small = lit< tt; minus_is = refl; square_below = lit< tt; square_is = refl; back_is = refl }
