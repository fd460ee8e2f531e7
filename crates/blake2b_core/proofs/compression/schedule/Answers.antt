use Rattle.std.proofs.Common.{◌∙◌, arith}
use Rattle.blake2b_core.proofs.{CompressionLemmas.picked-row, compression.schedule.Goals.in-0}
use Rattle.blake2b_core.proofs.compression.schedule.Goals.{in-1, in-2, in-3, in-4, in-5, in-6, in-7, in-8, in_default}
use Rattle.blake2b_core.proofs.compression.schedule.Goals as goal

-- each row of SIGMA in turn
pub returns : goal.returns
returns c =
    elim c.match-r-rem10.branch [
      | in-0 w ↦ w.result-is ∙ picked-row c.args.m c.args.r 0 c.fits-m.0 tt w.in-0.is
      | in-1 w ↦ w.result-is ∙ picked-row c.args.m c.args.r 1 c.fits-m.0 tt w.in-1.is
      | in-2 w ↦ w.result-is ∙ picked-row c.args.m c.args.r 2 c.fits-m.0 tt w.in-2.is
      | in-3 w ↦ w.result-is ∙ picked-row c.args.m c.args.r 3 c.fits-m.0 tt w.in-3.is
      | in-4 w ↦ w.result-is ∙ picked-row c.args.m c.args.r 4 c.fits-m.0 tt w.in-4.is
      | in-5 w ↦ w.result-is ∙ picked-row c.args.m c.args.r 5 c.fits-m.0 tt w.in-5.is
      | in-6 w ↦ w.result-is ∙ picked-row c.args.m c.args.r 6 c.fits-m.0 tt w.in-6.is
      | in-7 w ↦ w.result-is ∙ picked-row c.args.m c.args.r 7 c.fits-m.0 tt w.in-7.is
      | in-8 w ↦ w.result-is ∙ picked-row c.args.m c.args.r 8 c.fits-m.0 tt w.in-8.is
      | in_default w ↦ w.result-is ∙ picked-row c.args.m c.args.r 9 c.fits-m.0 tt (omega arith)
    ]
