-- Streams, without the references.
use Rattle.json_points.specs.declared.stream.Stream.{Stream as BorrowedStream}
use Rattle.json_points.specs.declared.streams.SumStream.{SumStream as BorrowedSumStream}
use Rattle.json_points.specs.inner.MetricViews.{metric_data}
use Rattle.otlp_read.specs.Streams.{Stream, SumStream}

abbrev pub stream_data : BorrowedStream → Stream
stream_data s = metric_data s.metric

abbrev pub sum_stream_data : BorrowedSumStream → SumStream
sum_stream_data s = record { stream = stream_data s.stream; monotonic = s.monotonic }
