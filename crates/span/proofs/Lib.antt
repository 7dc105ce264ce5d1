mod SpanSteps
