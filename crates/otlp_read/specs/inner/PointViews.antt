-- The fields of a point, without the references.
use Rattle.otlp_read.specs.declared.sums.SumFields.{SumFields as BorrowedSum}
use Rattle.otlp_read.specs.declared.histograms.HistogramFields.{HistogramFields as BorrowedHistogram}
use Rattle.otlp_read.specs.Sums.{SumFields}
use Rattle.otlp_read.specs.Histograms.{HistogramFields}

abbrev pub sum_fields_data : BorrowedSum → SumFields
sum_fields_data f = record { start = f.start; end = f.end; value = f.value }

abbrev pub histogram_fields_data : BorrowedHistogram → HistogramFields
histogram_fields_data f = record { start = f.start; end = f.end; count = f.count; total = f.total }
