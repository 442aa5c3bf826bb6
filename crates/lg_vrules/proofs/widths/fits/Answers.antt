use Rattle.lg_vrules.proofs.WidthLemmas.{fits_by_quotient}
use Rattle.lg_vrules.proofs.widths.fits.Goals as goal

pub returns-else-width-eq-GREATEST_WIDTH : goal.returns-else-width-eq-GREATEST_WIDTH
returns-else-width-eq-GREATEST_WIDTH c = fits_by_quotient c.args.value c.args.width
