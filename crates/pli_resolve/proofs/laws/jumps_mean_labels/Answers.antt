use Rattle.pli_resolve.proofs.UsesMean.{jumps_mean_labels}
use Rattle.pli_resolve.proofs.laws.jumps_mean_labels.Goals as goal

pub returns : goal.returns
returns c = jumps_mean_labels
