mod WorkedExamples
mod LineExamples
